-- What arguments, constraints and guards stand for in a rule.
use Rattle.std.specs.Prelude.{Bool, pos, ℤ, List, [], ◌∷◌, ◌++◌, map, if◌then◌else◌}
use Rattle.model_core.specs.declared.item.Item.{Item}
use Rattle.model_core.specs.declared.item.Item.TheVariants.{Constraint}
use Rattle.domain_core.specs.declared.kind.Kind.{Kind}
use Rattle.domain_core.specs.declared.kind.Kind.TheVariants.{Neq, AllDiff}
use Rattle.model_core.specs.declared.item.Term.{Term}
use Rattle.model_core.specs.declared.item.Term.TheVariants as terms
use Rattle.model_core.specs.declared.rule.Entry.TheVariants as entries
use Rattle.model_core.specs.declared.rule.Guard.{Guard}
use Rattle.model_core.specs.declared.rule.Guard.TheVariants.{Equal, Differ}
use Rattle.model_core.specs.declared.variable.ValueKind.TheVariants as kinds
use Rattle.nddl_ast.specs.declared.expression.Constant.{Constant}
use Rattle.nddl_ast.specs.declared.expression.Constant.TheVariants as constants
use Rattle.nddl_ast.specs.declared.expression.Expr.{Expr}
use Rattle.nddl_ast.specs.declared.expression.Expr.TheVariants as exprs
use Rattle.nddl_ast.specs.declared.statement.Condition.{Condition}
use Rattle.nddl_ast.specs.declared.statement.Condition.TheVariants as conditions
use Rattle.nddl_terms.specs.declared.growth.Growth.{Growth}
use Rattle.nddl_terms.specs.declared.stands.Made.{Made}
use Rattle.nddl_terms.specs.declared.stands.Stand.{Stand}
use Rattle.nddl_terms.specs.declared.stands.Stand.TheVariants.{Value}
use Rattle.nddl_terms.specs.Paths.{Reached, path_stand, reached}
use Rattle.nddl_terms.specs.Readings.{Readings}
use Rattle.nddl_lower.specs.Compared.{compared_term, constraint_terms, has_decimal, stand_term}

-- ---- arguments

-- a truth as a value
abbrev pub truth_value : Bool → ℤ
truth_value truth = if truth then pos 1 else pos 0

-- a value that is written out
abbrev pub constant_stand : Constant → Stand
constant_stand (constants.Number number) = Value (terms.Lit number) kinds.Int 0
constant_stand (constants.Decimal thousandths) = Value (terms.Lit thousandths.0) kinds.Float 0
constant_stand (constants.Truth truth) = Value (terms.Lit (truth_value truth)) kinds.Bool 0

-- what an argument stands for, and what the rule has then
abbrev pub argument : Readings → List Made → Expr → Growth → Reached
argument reading turns (exprs.Path path) growth = path_stand reading turns path growth
argument reading turns (exprs.Literal literal) growth = reached (constant_stand literal.constant) growth

-- the same of arguments one after another
pub record AllReached : Type 0 where
  pub stands : List Stand
  pub growth : Growth

abbrev pub given_arguments : Readings → List Made → List Expr → Growth → AllReached
given_arguments reading turns [] growth = record { stands = []; growth = growth }
given_arguments reading turns (expr ∷ more) growth =
    let first = argument reading turns expr growth in
    let rest = given_arguments reading turns more first.growth in
    record { stands = first.stand ∷ rest.stands; growth = rest.growth }

-- ---- constraints

-- the two differ
abbrev pub differ : Term → Term → Item
differ one other = Constraint Neq (one ∷ other ∷ [])

-- each differs from each of those behind it
abbrev pub all_differ : List Term → List Item
all_differ [] = []
all_differ (one ∷ more) = map (differ one) more ++ all_differ more

-- The items of a constraint: where all its arguments differ, one for each two of them.
abbrev pub constraint_items : Kind → List Term → List Item
constraint_items AllDiff some = all_differ some
constraint_items kind some = Constraint kind some ∷ []

-- these items more in the block
abbrev pub with_items : List Item → Growth → Growth
with_items items growth = record growth { entries = growth.entries ++ map entries.Item items }

-- a constraint of what stands for these
abbrev pub with_constraint_of : Kind → List Stand → Growth → Growth
with_constraint_of kind stands growth = with_items (constraint_items kind (constraint_terms kind stands)) growth

-- a constraint with these arguments
abbrev pub with_constraint : Readings → List Made → Kind → List Expr → Growth → Growth
with_constraint reading turns kind some growth =
    let given = given_arguments reading turns some growth in with_constraint_of kind given.stands given.growth

-- ---- guards

-- what is tested, and what the rule has then
pub record Tested : Type 0 where
  pub guard : Guard
  pub growth : Growth

-- the two are equal
abbrev pub equal_guard : Stand → Stand → Guard
equal_guard one other =
    let decimal = has_decimal (one ∷ other ∷ []) in Equal (compared_term decimal one) (compared_term decimal other)

-- the two differ
abbrev pub differ_guard : Stand → Stand → Guard
differ_guard one other =
    let decimal = has_decimal (one ∷ other ∷ []) in Differ (compared_term decimal one) (compared_term decimal other)

-- what an `if` tests: `if (b)` tests that b is true
abbrev pub condition_guard : Readings → List Made → Condition → Growth → Tested
condition_guard reading turns (conditions.Truth expr) growth =
    let given = argument reading turns expr growth in
    record { guard = Equal (stand_term given.stand) (terms.Lit (pos 1)); growth = given.growth }
condition_guard reading turns (conditions.Equal one other) growth =
    let left = argument reading turns one growth in
    let right = argument reading turns other left.growth in
    record { guard = equal_guard left.stand right.stand; growth = right.growth }
condition_guard reading turns (conditions.NotEqual one other) growth =
    let left = argument reading turns one growth in
    let right = argument reading turns other left.growth in
    record { guard = differ_guard left.stand right.stand; growth = right.growth }
