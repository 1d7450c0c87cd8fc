use Rattle.std.proofs.Common.{arith}
use Rattle.law_examples.proofs.Reasons.{third_unknown}
use Rattle.law_examples.proofs.Settling.{x_admissible}
use Rattle.law_examples.proofs.Posted.{argument_unknown, lone_unknown, x_below_y_admissible}
use Rattle.law_examples.proofs.refusals.what_is_not_there_is_unknown.Goals as goal

pub returns-clause-unknown : goal.returns-clause-unknown
returns-clause-unknown c = third_unknown

pub returns-clause-known : goal.returns-clause-known
returns-clause-known c = x_admissible 2 (omega arith)

pub returns-clause-argument : goal.returns-clause-argument
returns-clause-argument c = argument_unknown

pub returns-clause-known_arguments : goal.returns-clause-known_arguments
returns-clause-known_arguments c = x_below_y_admissible

pub returns-clause-lone_argument : goal.returns-clause-lone_argument
returns-clause-lone_argument c = lone_unknown
