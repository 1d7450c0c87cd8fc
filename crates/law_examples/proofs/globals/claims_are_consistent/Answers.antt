use Rattle.law_examples.proofs.Variables.{low_closed, x_is_inconsistent}
use Rattle.law_examples.proofs.globals.claims_are_consistent.Goals as goal

pub returns-clause-consistent : goal.returns-clause-consistent
returns-clause-consistent c = low_closed

pub returns-clause-inconsistent : goal.returns-clause-inconsistent
returns-clause-inconsistent c = x_is_inconsistent
