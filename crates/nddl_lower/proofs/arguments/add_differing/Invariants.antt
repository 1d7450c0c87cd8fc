use Rattle.std.proofs.Common.{◌≡◌, drop}
use Rattle.nddl_lower.specs.Arguments.{all_differ, with_items}
use Rattle.nddl_lower.proofs.arguments.add_differing.Given as goal

-- with the items of the terms that are left the rule has what it has with all
abbrev pub invariant-loop-place : goal.invariant-loop-place
invariant-loop-place l =
    with_items (all_differ (drop l.place l.terms)) l.growth ≡ with_items (all_differ l.terms) l.initial.growth
