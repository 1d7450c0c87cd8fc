use Rattle.model_typing.proofs.Telling.{told_not}
use Rattle.model_rules.proofs.Marking.{once_told}
use Rattle.model_rules.proofs.numbers.are_once_in.Goals as goal

pub returns-then-not-are_new : goal.returns-then-not-are_new
returns-then-not-are_new c = told_not _ (λ once. c.if-not-are_new.ensures once.within once.distinct)

pub returns : goal.returns
returns c = once_told _ c.args.numbers.now c.are_new.new.marks c.are_marked.result c.if-not-are_new.ensures c.are_marked.ensures
