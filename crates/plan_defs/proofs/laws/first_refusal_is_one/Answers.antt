use Rattle.plan_defs.proofs.Reasons.{refusal_same}
use Rattle.plan_defs.proofs.laws.first_refusal_is_one.Goals as goal

pub returns : goal.returns
returns c = refusal_same
