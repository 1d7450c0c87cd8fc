use Rattle.flow_envelope.proofs.Cutting.{no_more}
use Rattle.flow_envelope.proofs.laws.cut_shows_no_more.Goals as goal

pub returns : goal.returns
returns c = λ edges changes at cut sum is value schedule. no_more edges changes at cut sum is value schedule
