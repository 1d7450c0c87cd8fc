use Rattle.law_examples.proofs.Variables.{whole_closed, x_is_outside}
use Rattle.law_examples.proofs.globals.variables_stay_in_their_bases.Goals as goal

pub returns-clause-inside : goal.returns-clause-inside
returns-clause-inside c = whole_closed

pub returns-clause-outside : goal.returns-clause-outside
returns-clause-outside c = x_is_outside
