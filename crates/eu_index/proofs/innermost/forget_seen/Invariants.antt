use Rattle.std.proofs.Common.{◌≡◌, length, take}
use Rattle.eu_index.specs.Hiding.{AreIndexed, seen_pairs}
use Rattle.eu_index.proofs.innermost.forget_seen.Given as goal

-- the first so many are those of the beginning
abbrev pub invariant-loop-seen : goal.invariant-loop-seen
invariant-loop-seen g l =
    AreIndexed l.last.entries l.seen.items
    × (take l.count (seen_pairs l.seen.items) ≡ take l.count (seen_pairs l.initial.seen.items))

abbrev pub decreases-loop-seen : goal.decreases-loop-seen
decreases-loop-seen g l = length l.seen.items
