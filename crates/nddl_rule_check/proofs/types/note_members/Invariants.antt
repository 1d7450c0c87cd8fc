use Rattle.std.proofs.Common.{◌≡◌, drop}
use Rattle.nddl_symbols.specs.Finding.{earliest_fault}
use Rattle.nddl_hierarchy.specs.Facts.{facts_of}
use Rattle.nddl_resolve.specs.Paths.{around_of}
use Rattle.nddl_rule_check.specs.Types.{local_members_faults}
use Rattle.nddl_rule_check.proofs.types.note_members.Given as goal

-- the earliest so far and of those of the values that are left is the earliest of all
abbrev pub invariant-loop-value : goal.invariant-loop-value
invariant-loop-value l =
    earliest_fault l.first
    (local_members_faults (facts_of l.spot.basis) (around_of l.around) l.kind l.extent l.spot.decl (drop l.value-index l.values))
    ≡ earliest_fault l.initial.first
    (local_members_faults (facts_of l.spot.basis) (around_of l.around) l.kind l.extent l.spot.decl l.values)
