use Rattle.std.proofs.Common.{◌≡◌, drop}
use Rattle.nddl_symbols.specs.Finding.{earliest_fault}
use Rattle.nddl_hierarchy.specs.Facts.{facts_of}
use Rattle.nddl_resolve.specs.Paths.{around_of}
use Rattle.nddl_constructors.specs.Objects.{settings_faults_from}
use Rattle.nddl_constructors.proofs.objects.note_setting_values.Given as goal

-- the earliest so far and of those of the arguments that are left is the earliest of all
abbrev pub invariant-loop-number : goal.invariant-loop-number
invariant-loop-number l =
    earliest_fault l.first
    (settings_faults_from (facts_of l.basis) (around_of l.around) l.decl l.number (drop l.number l.arguments))
    ≡ earliest_fault l.initial.first
    (settings_faults_from (facts_of l.basis) (around_of l.around) l.decl 0 l.arguments)
