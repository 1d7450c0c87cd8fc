use Rattle.std.proofs.Common.{◌≡◌, ◌++◌, drop}
use Rattle.nddl_types.specs.Classes.{class_numbers}
use Rattle.nddl_types.proofs.numbers.class_numbers.Given as goal

-- those so far and those of the names that are left are all
abbrev pub invariant-loop-number : goal.invariant-loop-number
invariant-loop-number l =
    l.numbers.items ++ class_numbers l.scope l.next l.number (drop l.number l.names) ≡ class_numbers l.scope 4 0 l.names
