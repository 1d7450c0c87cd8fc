use Rattle.std.proofs.Common.{◌≡◌, drop}
use Rattle.std.specs.List.{flat_map}
use Rattle.nddl_symbols.specs.Finding.{earliest_fault}
use Rattle.nddl_hierarchy.specs.Facts.{facts_of}
use Rattle.nddl_declarations.specs.Members.{member_faults}
use Rattle.nddl_declarations.proofs.members.note_members.Given as goal

-- the earliest so far and of those of the members that are left is the earliest of all
abbrev pub invariant-loop-member : goal.invariant-loop-member
invariant-loop-member l =
    earliest_fault l.first (flat_map (member_faults (facts_of l.basis) l.decl) (drop l.member-index l.members))
    ≡ earliest_fault l.initial.first (flat_map (member_faults (facts_of l.basis) l.decl) l.members)
