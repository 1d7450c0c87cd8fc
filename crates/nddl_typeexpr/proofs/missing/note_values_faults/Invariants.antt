use Rattle.std.proofs.Common.{◌≡◌, drop}
use Rattle.nddl_symbols.specs.Finding.{earliest_fault}
use Rattle.nddl_typeexpr.specs.Bounds.{values_faults}
use Rattle.nddl_typeexpr.proofs.missing.note_values_faults.Given as goal

-- the earliest so far and of those of the values that are left is the earliest of all
abbrev pub invariant-loop-value : goal.invariant-loop-value
invariant-loop-value l =
    earliest_fault l.first (values_faults l.scope l.decl (drop l.value-index l.values))
    ≡ earliest_fault l.initial.first (values_faults l.scope l.decl l.values)
