use Rattle.std.proofs.Common.{map}
use Rattle.std.specs.Prelude.{take}
use Rattle.plan_resolve.specs.Indexing.{IsIndexOf}
use Rattle.plan_resolve.proofs.indexed.index_of_labels.Given as goal

-- the labels before this one are in the index
abbrev pub invariant-loop-place : goal.invariant-loop-place
invariant-loop-place l = IsIndexOf (take l.place (map (λ root. root.label) l.roots)) l.index
