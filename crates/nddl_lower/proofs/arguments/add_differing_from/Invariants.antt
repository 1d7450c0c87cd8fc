use Rattle.std.proofs.Common.{◌≡◌, drop, map}
use Rattle.nddl_lower.specs.Arguments.{differ, with_items}
use Rattle.nddl_lower.proofs.arguments.add_differing_from.Given as goal

-- with the items that are left the rule has what it has with all
abbrev pub invariant-loop-other : goal.invariant-loop-other
invariant-loop-other l =
    with_items (map (differ l.one) (drop l.other-index l.others)) l.growth ≡ with_items (map (differ l.one) l.others) l.fn.growth
