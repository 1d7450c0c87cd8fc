use Rattle.std.proofs.Common.{◌≡◌, ◌++◌, drop}
use Rattle.nddl_hierarchy.specs.Facts.{facts_of}
use Rattle.nddl_resolve.specs.Paths.{around_of}
use Rattle.nddl_rule_check.specs.Types.{local_numbers}
use Rattle.nddl_rule_check.proofs.types.local_numbers.Given as goal

-- those so far and those of the values that are left are all
abbrev pub invariant-loop-value : goal.invariant-loop-value
invariant-loop-value l =
    l.numbers.items ++ local_numbers (facts_of l.basis) (around_of l.around) l.kind l.extent (drop l.value-index l.values)
    ≡ local_numbers (facts_of l.basis) (around_of l.around) l.kind l.extent l.values
