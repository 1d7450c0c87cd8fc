use Rattle.std.proofs.Common.{◌≡◌, drop}
use Rattle.nddl_symbols.specs.Finding.{earliest_fault}
use Rattle.nddl_symbols.specs.Repeats.{repeated_faults}
use Rattle.nddl_hierarchy.specs.Inherited.{member_names}
use Rattle.nddl_declarations.proofs.classes.note_names.Given as goal

-- the earliest so far and of the names that are left is the earliest of all
abbrev pub invariant-loop-member : goal.invariant-loop-member
invariant-loop-member l =
    earliest_fault l.first (repeated_faults l.decl l.noted (member_names (drop l.member-index l.members)))
    ≡ earliest_fault l.initial.first (repeated_faults l.decl l.initial.noted (member_names l.members))
