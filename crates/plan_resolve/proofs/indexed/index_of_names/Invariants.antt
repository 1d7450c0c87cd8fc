use Rattle.std.specs.Prelude.{take}
use Rattle.model_core.specs.Naming.{names_of}
use Rattle.plan_resolve.specs.Indexing.{IsIndexOf}
use Rattle.plan_resolve.proofs.indexed.index_of_names.Given as goal

-- the names before this one are in the index
abbrev pub invariant-loop-place : goal.invariant-loop-place
invariant-loop-place l = IsIndexOf (take l.place (names_of l.variables)) l.index
