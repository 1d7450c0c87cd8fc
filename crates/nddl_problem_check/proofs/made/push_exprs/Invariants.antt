use Rattle.std.proofs.Common.{◌≡◌, ◌++◌, drop}
use Rattle.std.specs.List.{flat_map}
use Rattle.nddl_hierarchy.specs.Facts.{facts_of}
use Rattle.nddl_problem_check.specs.Made.{expr_places}
use Rattle.nddl_problem_check.proofs.made.push_exprs.Given as goal

-- the places so far and those of the arguments that are left are all
abbrev pub invariant-loop-expr : goal.invariant-loop-expr
invariant-loop-expr l =
    l.places.items ++ flat_map (expr_places (facts_of l.basis) l.decl) (drop l.expr-index l.exprs)
    ≡ l.initial.places.items ++ flat_map (expr_places (facts_of l.basis) l.decl) l.exprs
