use Rattle.std.proofs.Common.{◌≡◌, replicate}
use Rattle.eu_forest.proofs.members.first_places.Given as goal

abbrev pub invariant-loop : goal.invariant-loop
invariant-loop l = l.places.items ≡ replicate l.counter 0
