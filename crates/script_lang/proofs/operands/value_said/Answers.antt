use Rattle.script_lang.proofs.Low.{value_is_low}
use Rattle.script_lang.proofs.Naming.{none_said, says_kept}
use Rattle.script_lang.proofs.operands.value_said.Goals as goal

pub kept-requires : goal.kept-requires
kept-requires c = value_is_low c.args.word.now (c.is_value_word.ensures.0 c.if-not-is_value_word.false)

pub returns-then-not-is_value_word : goal.returns-then-not-is_value_word
returns-then-not-is_value_word c = λ found is. none_said c.args.word.now found c.is_value_word.result c.is_value_word.ensures c.if-not-is_value_word.true is

pub returns : goal.returns
returns c = says_kept c.args.word.now c.kept.result (c.is_value_word.ensures.0 c.if-not-is_value_word.false) c.kept.ensures.text c.kept.ensures.fault
