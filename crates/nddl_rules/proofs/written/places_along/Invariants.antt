use Rattle.std.proofs.Common.{◌≡◌, ◌++◌, drop}
use Rattle.std.specs.List.{flat_map}
use Rattle.eu_forest.specs.Members.{list_at}
use Rattle.nddl_rules.proofs.written.places_along.Given as goal

-- those so far and those of the predicates that are left are all
abbrev pub invariant-loop-number : goal.invariant-loop-number
invariant-loop-number l =
    l.places.items ++ flat_map (list_at l.written) (drop l.number-index l.line) ≡ flat_map (list_at l.written) l.line
