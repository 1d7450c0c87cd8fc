use Rattle.std.specs.Prelude.{take}
use Rattle.plan_resolve.specs.Indexing.{IsIndexOf, object_names}
use Rattle.plan_resolve.proofs.indexed.index_of_objects.Given as goal

-- the names of the objects before this one are in the index
abbrev pub invariant-loop-place : goal.invariant-loop-place
invariant-loop-place l = IsIndexOf (take l.place (object_names l.objects)) l.index
