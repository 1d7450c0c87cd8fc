use Rattle.eu_name.specs.Spelling.{Spells}
use Rattle.script_lang.specs.Words.{words_of}
use Rattle.script_lang.specs.Operands.{IsValueOf}
use Rattle.script_lang.proofs.Naming.{says_pair}
use Rattle.script_lang.proofs.operands.name_and_value.Goals as goal

pub returns-in-Some : goal.returns-in-Some
returns-in-Some c =
    says_pair Spells IsValueOf (words_of c.args.rest.now) c.in-Some.name.now c.in-Some.value.now c.name_said.result c.value_said.result c.both.result
    c.in-Some.ensures.some c.both.ensures c.name_said.ensures c.value_said.ensures
