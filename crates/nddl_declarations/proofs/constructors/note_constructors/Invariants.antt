use Rattle.std.proofs.Common.{◌≡◌, false, drop}
use Rattle.nddl_symbols.specs.Finding.{earliest_fault}
use Rattle.nddl_declarations.specs.Members.{constructors_faults}
use Rattle.nddl_declarations.proofs.constructors.note_constructors.Given as goal

-- the earliest so far and of those of the members that are left is the earliest of all
abbrev pub invariant-loop-member : goal.invariant-loop-member
invariant-loop-member l =
    earliest_fault l.first (constructors_faults l.decl l.class l.seen (drop l.member-index l.members))
    ≡ earliest_fault l.initial.first (constructors_faults l.decl l.class false l.members)
