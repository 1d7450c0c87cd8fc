use Rattle.std.proofs.Common.{◌≡◌, drop}
use Rattle.nddl_symbols.specs.Finding.{earliest_fault}
use Rattle.nddl_typeexpr.specs.Bounds.{members_faults}
use Rattle.nddl_typeexpr.proofs.sets.note_members_faults.Given as goal

-- the earliest so far and of those of the values that are left is the earliest of all
abbrev pub invariant-loop-value : goal.invariant-loop-value
invariant-loop-value l =
    earliest_fault l.first
    (members_faults l.base.scope.now l.base.kind l.base.extent.now l.decl (drop l.value-index l.values))
    ≡ earliest_fault l.initial.first (members_faults l.base.scope.now l.base.kind l.base.extent.now l.decl l.values)
