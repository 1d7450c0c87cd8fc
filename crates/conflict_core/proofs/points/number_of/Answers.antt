use Rattle.std.proofs.Common.{◌≡◌, Some}
use Rattle.std.specs.Prelude.{slice_get}
use Rattle.eu_name.proofs.Members.{get_below}
use Rattle.conflict_core.proofs.Ordering.{place_stands}
use Rattle.conflict_core.proofs.points.number_of.Goals as goal

pub returns : goal.returns
returns c =
    let at : slice_get c.args.points.now c.place_of.result ≡ Some c.args.point.now =
    place_stands c.args.points.now c.args.point.now c.place_of.result c.requires.are.order c.place_of.ensures.lower c.place_of.ensures.upper c.requires.there in
    record { at = at; below = get_below c.args.points.now c.place_of.result c.args.point.now at }
