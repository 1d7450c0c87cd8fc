use Rattle.std.proofs.Common.{◌≡◌, drop}
use Rattle.nddl_hierarchy.specs.Facts.{facts_of}
use Rattle.nddl_resolve.specs.Paths.{around_of}
use Rattle.nddl_rule_check.specs.Arguments.{are_decimals}
use Rattle.nddl_rule_check.proofs.arguments.are_decimals.Given as goal

-- a decimal is among those that are left if one is among all
abbrev pub invariant-loop-place : goal.invariant-loop-place
invariant-loop-place l =
    are_decimals (facts_of l.spot.basis) (around_of l.around) l.kind l.place (drop l.place l.exprs)
    ≡ are_decimals (facts_of l.spot.basis) (around_of l.around) l.kind 0 l.exprs
