use Rattle.std.proofs.Common.{◌≡◌, ◌++◌, drop, map}
use Rattle.eu_forest.specs.Members.{place_or_first}
use Rattle.eu_forest.proofs.members.places_of.Given as goal

-- those so far and those that are left are all
abbrev pub invariant-loop-thing : goal.invariant-loop-thing
invariant-loop-thing l =
    l.found.items ++ map (place_or_first l.places) (drop l.thing-index l.things) ≡ map (place_or_first l.places) l.things
