use Rattle.std.proofs.lemmas.Bool.{both_ways}
use Rattle.eu_name.proofs.Members.{contains_from_get}
use Rattle.conflict_core.proofs.Ordering.{place_stands}
use Rattle.conflict_core.proofs.points.missing_place.Goals as goal

pub returns-then-stands_at : goal.returns-then-stands_at
returns-then-stands_at c = contains_from_get c.args.points.now c.place_of-place.result c.args.point.now (c.stands_at.ensures.0 c.if-stands_at.true)

pub returns : goal.returns
returns c = (
  c.place_of-place.ensures,
  λ there. both_ways c.stands_at.result c.if-stands_at.false (c.stands_at.ensures.1
      (place_stands c.args.points.now c.args.point.now c.place_of-place.result c.requires.order c.place_of-place.ensures.lower c.place_of-place.ensures.upper there)),
)
