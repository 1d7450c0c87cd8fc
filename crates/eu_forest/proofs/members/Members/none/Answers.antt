use Rattle.eu_forest.proofs.Sharing.{none_is}
use Rattle.eu_forest.proofs.members.Members.none.Goals as goal

pub returns : goal.returns
returns c = none_is _ c.in_ok-places.places.items c.args.count c.args.things c.in_ok-marks.ensures c.in_ok-places.ensures
