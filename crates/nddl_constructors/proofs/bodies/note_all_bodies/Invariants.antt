use Rattle.std.proofs.Common.{◌≡◌, drop}
use Rattle.nddl_symbols.specs.Finding.{earliest_fault}
use Rattle.nddl_hierarchy.specs.Facts.{facts_of}
use Rattle.nddl_constructors.specs.Bodies.{bodies_faults}
use Rattle.nddl_constructors.proofs.bodies.note_all_bodies.Given as goal

-- the earliest so far and of those of the members that are left is the earliest of all
abbrev pub invariant-loop-member : goal.invariant-loop-member
invariant-loop-member l =
    earliest_fault l.first (bodies_faults (facts_of l.basis) l.decl l.entry (drop l.member-index l.members))
    ≡ earliest_fault l.initial.first (bodies_faults (facts_of l.basis) l.decl l.entry l.members)
