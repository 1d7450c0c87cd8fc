use Rattle.law_examples.proofs.Posted.{too_few, no_variable, with_variable, two_kinds, ordered_truths, equal_truths}
use Rattle.law_examples.proofs.refusals.constraints_take_their_arguments.Goals as goal

pub returns-clause-too_few : goal.returns-clause-too_few
returns-clause-too_few c = too_few

pub returns-clause-no_variable : goal.returns-clause-no_variable
returns-clause-no_variable c = no_variable

pub returns-clause-with_variable : goal.returns-clause-with_variable
returns-clause-with_variable c = with_variable

pub returns-clause-two_kinds : goal.returns-clause-two_kinds
returns-clause-two_kinds c = two_kinds

pub returns-clause-ordered_truths : goal.returns-clause-ordered_truths
returns-clause-ordered_truths c = ordered_truths

pub returns-clause-equal_truths : goal.returns-clause-equal_truths
returns-clause-equal_truths c = equal_truths
