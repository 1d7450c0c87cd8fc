use Rattle.std.proofs.Common.{◌≡◌, ◌++◌, drop}
use Rattle.nddl_typeexpr.specs.Bounds.{own_numbers}
use Rattle.nddl_typeexpr.proofs.sets.own_numbers.Given as goal

-- those so far and those of the values that are left are all
abbrev pub invariant-loop-value : goal.invariant-loop-value
invariant-loop-value l =
    l.numbers.items ++ own_numbers l.base.scope.now l.base.kind l.base.extent.now (drop l.value-index l.values)
    ≡ own_numbers l.base.scope.now l.base.kind l.base.extent.now l.values
