use Rattle.std.proofs.Common.{◌≡◌, drop}
use Rattle.nddl_symbols.specs.Finding.{earliest_fault}
use Rattle.nddl_hierarchy.specs.Facts.{facts_of}
use Rattle.nddl_resolve.specs.Paths.{around_of}
use Rattle.nddl_constructors.specs.Bodies.{sets_faults}
use Rattle.nddl_constructors.proofs.bodies.note_sets.Given as goal

-- the earliest so far and of those of the parts that are left is the earliest of all
abbrev pub invariant-loop-set : goal.invariant-loop-set
invariant-loop-set l =
    earliest_fault l.first (sets_faults (facts_of l.basis) (around_of l.around) l.decl l.entry (drop l.set-index l.sets))
    ≡ earliest_fault l.initial.first (sets_faults (facts_of l.basis) (around_of l.around) l.decl l.entry l.sets)
