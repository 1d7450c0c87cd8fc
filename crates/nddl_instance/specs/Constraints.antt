-- What constraints outside of rules stand for.
use Rattle.std.specs.Prelude.{ℕ, List, [], ◌∷◌}
use Rattle.std.specs.Option.{option_map_or}
use Rattle.domain_core.specs.declared.kind.Kind.{Kind}
use Rattle.nddl_ast.specs.declared.expression.Expr.{Expr}
use Rattle.nddl_ast.specs.declared.expression.Expr.TheVariants as exprs
use Rattle.nddl_rule_check.specs.Constraints.{constraint_named}
use Rattle.nddl_terms.specs.declared.growth.Growth.{Growth}
use Rattle.nddl_terms.specs.Paths.{Reached, reached}
use Rattle.nddl_lower.specs.Arguments.{AllReached, constant_stand, with_constraint_of}
use Rattle.nddl_instance.specs.Outside.{Outsides, outer_path}

-- what an argument stands for, and what there is then
abbrev pub outer_argument : Outsides → Expr → Growth → Reached
outer_argument outside (exprs.Path path) growth = outer_path outside path growth
outer_argument outside (exprs.Literal literal) growth = reached (constant_stand literal.constant) growth

-- the same of arguments one after another
abbrev pub outer_arguments : Outsides → List Expr → Growth → AllReached
outer_arguments outside [] growth = record { stands = []; growth = growth }
outer_arguments outside (expr ∷ more) growth =
    let first = outer_argument outside expr growth in
    let rest = outer_arguments outside more first.growth in
    record { stands = first.stand ∷ rest.stands; growth = rest.growth }

-- a constraint with these arguments
abbrev pub with_outer_constraint : Outsides → Kind → List Expr → Growth → Growth
with_outer_constraint outside kind some growth =
    let given = outer_arguments outside some growth in with_constraint_of kind given.stands given.growth

-- the same, if the word is a constraint; `close` is none, and says nothing of the problem
abbrev pub with_outer_word : Outsides → List ℕ → List Expr → Growth → Growth
with_outer_word outside word some growth =
    option_map_or (λ kind. with_outer_constraint outside kind some growth) (constraint_named word) growth
