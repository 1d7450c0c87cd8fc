use Rattle.std.proofs.Common.{◌≡◌, drop}
use Rattle.nddl_symbols.specs.Finding.{earliest_fault}
use Rattle.nddl_hierarchy.specs.Facts.{faults_of_foreign}
use Rattle.nddl_hierarchy.proofs.objects.note_foreign.Given as goal

-- the earliest so far and of those of the values that are left is the earliest of all
abbrev pub invariant-loop-value : goal.invariant-loop-value
invariant-loop-value l =
    earliest_fault l.first (faults_of_foreign l.basis l.decl l.class (drop l.value-index l.values))
    ≡ earliest_fault l.initial.first (faults_of_foreign l.basis l.decl l.class l.values)
