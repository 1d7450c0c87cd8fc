use Rattle.law_states.proofs.Agreeing.{agrees}
use Rattle.law_states.proofs.flawless.flawless_plans_agree.Goals as goal

pub returns : goal.returns
returns c = agrees
