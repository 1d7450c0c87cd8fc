use Rattle.std.proofs.Common.{◌≡◌, replicate, false}
use Rattle.eu_forest.proofs.marks.none_marked.Given as goal

abbrev pub invariant-loop : goal.invariant-loop
invariant-loop l = l.marks ≡ replicate l.counter false
