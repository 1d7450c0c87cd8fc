use Rattle.std.proofs.Common.{◌≡◌, ◌++◌, drop}
use Rattle.std.specs.List.{filter_map}
use Rattle.nddl_declarations.specs.Domains.{place_of_member}
use Rattle.nddl_declarations.proofs.values.member_places.Given as goal

-- the places so far and those of the numbers that are left are all
abbrev pub invariant-loop-number : goal.invariant-loop-number
invariant-loop-number l =
    l.places.items ++ filter_map (place_of_member l.scope) (drop l.number-index l.numbers) ≡ filter_map (place_of_member l.scope) l.numbers
