use Rattle.std.proofs.Common.{◌≡◌, drop}
use Rattle.nddl_symbols.specs.Finding.{earliest_fault}
use Rattle.nddl_symbols.specs.Scope.{second_name_faults}
use Rattle.nddl_symbols.proofs.twice.note_second_names.Given as goal

-- the earliest so far and of those of the names that are left is the earliest of all
abbrev pub invariant-loop-number : goal.invariant-loop-number
invariant-loop-number l =
    earliest_fault l.first (second_name_faults l.scope l.number (drop l.number l.names))
    ≡ earliest_fault l.initial.first (second_name_faults l.scope 0 l.names)
