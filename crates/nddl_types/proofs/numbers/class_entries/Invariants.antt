use Rattle.std.proofs.Common.{◌≡◌, ◌++◌, drop}
use Rattle.nddl_types.specs.Classes.{class_entries}
use Rattle.nddl_types.proofs.numbers.class_entries.Given as goal

-- those so far and those of the names that are left are all
abbrev pub invariant-loop-number : goal.invariant-loop-number
invariant-loop-number l =
    l.entries.items ++ class_entries l.scope l.number (drop l.number l.names) ≡ class_entries l.scope 0 l.names
