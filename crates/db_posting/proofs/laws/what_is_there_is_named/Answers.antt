use Rattle.db_posting.proofs.Present.{what_is_there_is_named, items_of_problem_are_named}
use Rattle.db_posting.proofs.laws.what_is_there_is_named.Goals as goal

pub returns-clause-rule : goal.returns-clause-rule
returns-clause-rule c = what_is_there_is_named

pub returns-clause-problem : goal.returns-clause-problem
returns-clause-problem c = items_of_problem_are_named
