use Rattle.std.proofs.Common.{◌∙◌, ap, map, pos, sym}
use Rattle.eu_forest.specs.Members.{numbers_marked, place_or_first}
use Rattle.eu_forest.proofs.Sharing.{listed_seen}
use Rattle.eu_forest.proofs.members.Members.listed.Goals as goal

pub returns : goal.returns
returns c =
    listed_seen c.self.inside.marks.items c.self.inside.places.items c.args.things.now c.in_ok-lists.lists.items c.in_ok-places.places.items c.args.self.now
    c.self.invariant
    (c.in_ok-lists.ensures ∙ ap (map (λ some. map pos (numbers_marked 0 some))) c.as_slice-2.ensures.value)
    (c.in_ok-places.ensures ∙ ap (λ places. map (place_or_first places) c.args.things.now) c.as_slice.ensures.value)
    (sym c.self.view_is)
