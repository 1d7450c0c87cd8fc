use Rattle.std.proofs.Common.{◌≡◌, drop}
use Rattle.nddl_instance.specs.Putting.{with_rule_numbers}
use Rattle.nddl_instance.proofs.numbers.put_all.Given as goal

-- with the rules that are left the lists are those with all
abbrev pub invariant-loop-number : goal.invariant-loop-number
invariant-loop-number l =
    with_rule_numbers 0 l.number (drop l.number l.trees) l.lists.items ≡ with_rule_numbers 0 0 l.trees l.initial.lists.items
