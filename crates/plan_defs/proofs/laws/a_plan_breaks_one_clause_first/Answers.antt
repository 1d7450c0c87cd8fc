use Rattle.plan_defs.proofs.Breaking.{first_is_one}
use Rattle.plan_defs.proofs.laws.a_plan_breaks_one_clause_first.Goals as goal

pub returns : goal.returns
returns c = first_is_one
