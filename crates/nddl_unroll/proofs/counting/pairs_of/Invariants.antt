use Rattle.std.proofs.Common.{◌≡◌, drop}
use Rattle.nddl_unroll.specs.Counting.{pairs_of}
use Rattle.nddl_unroll.proofs.counting.pairs_of.Given as goal

-- with those that are left they are all
abbrev pub invariant-loop-place : goal.invariant-loop-place
invariant-loop-place l = pairs_of (drop l.place l.exprs) l.total ≡ pairs_of l.exprs 0
