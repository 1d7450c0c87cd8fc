use Rattle.nddl_hierarchy.specs.Facts.{facts_of}
use Rattle.nddl_construction.specs.Kept.{KeepField}
use Rattle.nddl_construction.proofs.kept.keep_members.Given as goal

-- what is kept of the members so far is right
abbrev pub invariant-loop-member : goal.invariant-loop-member
invariant-loop-member l =
    KeepField (facts_of l.basis) l.number l.initial.places l.initial.meanings.items l.places l.meanings.items
