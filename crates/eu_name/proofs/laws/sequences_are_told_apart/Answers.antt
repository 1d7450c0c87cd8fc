use Rattle.eu_name.proofs.Equality.{lists_told_apart}
use Rattle.eu_name.proofs.laws.sequences_are_told_apart.Goals as goal

pub returns : goal.returns
returns g c = lists_told_apart g.T.PartialEq.eq
