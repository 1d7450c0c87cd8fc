use Rattle.std.proofs.Common.{arith}
use Rattle.law_examples.proofs.Reasons.{x_outside, quantity_outside}
use Rattle.law_examples.proofs.Settling.{x_admissible}
use Rattle.law_examples.proofs.Posted.{value_outside, value_inside}
use Rattle.law_examples.proofs.refusals.values_are_of_the_base.Goals as goal

pub returns-clause-outside : goal.returns-clause-outside
returns-clause-outside c = x_outside

pub returns-clause-inside : goal.returns-clause-inside
returns-clause-inside c = x_admissible 2 (omega arith)

pub returns-clause-of_rejectable : goal.returns-clause-of_rejectable
returns-clause-of_rejectable c = quantity_outside

pub returns-clause-no_value : goal.returns-clause-no_value
returns-clause-no_value c = value_outside

pub returns-clause-greatest_value : goal.returns-clause-greatest_value
returns-clause-greatest_value c = value_inside
