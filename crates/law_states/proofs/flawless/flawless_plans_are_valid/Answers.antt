use Rattle.law_states.proofs.Clauses.{is_valid}
use Rattle.law_states.proofs.flawless.flawless_plans_are_valid.Goals as goal

pub returns : goal.returns
returns c = is_valid
