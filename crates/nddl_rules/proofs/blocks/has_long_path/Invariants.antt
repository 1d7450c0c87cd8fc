use Rattle.std.proofs.Common.{◌≡◌, drop}
use Rattle.nddl_rules.specs.Blocks.{has_long_path}
use Rattle.nddl_rules.proofs.blocks.has_long_path.Given as goal

-- there is one among those that are left where there is one among all
abbrev pub invariant-loop-expr : goal.invariant-loop-expr
invariant-loop-expr l = has_long_path (drop l.expr-index l.exprs) ≡ has_long_path l.exprs
