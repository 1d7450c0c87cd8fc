-- What is wrong with arguments where they stand.
use Rattle.std.specs.Prelude.{ℕ, ◌+◌, Bool, false, ◌&&◌, ◌||◌, List, [], ◌∷◌, ◌++◌, length, Option, Some, None}
use Rattle.std.specs.Prelude.{if◌then◌else◌}
use Rattle.std.specs.Option.{option_map_or}
use Rattle.domain_core.specs.declared.kind.Kind.{Kind}
use Rattle.nddl_ast.specs.declared.kind.TextKind.TheVariants as faults
use Rattle.nddl_ast.specs.declared.expression.Expr.{Expr}
use Rattle.nddl_ast.specs.declared.expression.Init.{Init}
use Rattle.nddl_ast.specs.declared.expression.Init.TheVariants as inits
use Rattle.nddl_ast.specs.declared.expression.Type as types
use Rattle.nddl_ast.specs.declared.statement.Condition.{Condition}
use Rattle.nddl_ast.specs.declared.statement.Condition.TheVariants as conditions
use Rattle.nddl_ast.specs.Places.{expr_place}
use Rattle.nddl_symbols.specs.declared.fault.Fault.{Fault}
use Rattle.nddl_symbols.specs.Finding.{faults_here}
use Rattle.nddl_typeexpr.specs.declared.kind.TypeKind.{TypeKind}
use Rattle.nddl_typeexpr.specs.declared.kind.TypeKind.TheVariants as kinds
use Rattle.nddl_typeexpr.specs.Bases.{base_kind}
use Rattle.nddl_hierarchy.specs.Facts.{Facts}
use Rattle.nddl_resolve.specs.declared.denoted.Denoted.{Denoted}
use Rattle.nddl_resolve.specs.Paths.{Surroundings, expr_denoted}
use Rattle.nddl_resolve.specs.Following.{or_faulty, understood_faults}
use Rattle.nddl_rule_check.specs.declared.asked.Asked.{Asked}
use Rattle.nddl_rule_check.specs.declared.asked.Asked.TheVariants as asked
use Rattle.nddl_rule_check.specs.Constraints.{asked_among, is_compared_at, takes}
use Rattle.nddl_rule_check.specs.Values.{compared_with, is_decimal, unfit_fault}

-- what an argument means for others, who say nothing of its faults
abbrev pub meant_by : Facts → Surroundings → Expr → Denoted
meant_by facts around expr = or_faulty (expr_denoted facts around expr)

-- What is wrong with an argument of which this is asked, where those that are compared before it are of this kind: what is
-- wrong with it by itself, and that it isn't what is asked for.
abbrev pub argument_faults : Facts → Surroundings → ℕ → Asked → Option TypeKind → Expr → List Fault
argument_faults facts around decl asks compared expr =
    understood_faults decl (expr_denoted facts around expr)
    ++ faults_here decl (expr_place expr) (unfit_fault asks compared expr (meant_by facts around expr))

-- one of the arguments of a constraint from this place on is compared and means a value of kind float
abbrev pub are_decimals : Facts → Surroundings → Kind → ℕ → List Expr → Bool
are_decimals facts around kind place [] = false
are_decimals facts around kind place (expr ∷ more) =
    (is_compared_at kind place && is_decimal (meant_by facts around expr)) || are_decimals facts around kind (place + 1) more

-- what is wrong with the arguments of a constraint from this place on, where this is asked at each place
abbrev pub arguments_faults : Facts → Surroundings → ℕ → (ℕ → Asked) → ℕ → Option TypeKind → List Expr → List Fault
arguments_faults facts around decl asks place compared [] = []
arguments_faults facts around decl asks place compared (expr ∷ more) =
    argument_faults facts around decl (asks place) compared expr
    ++ arguments_faults facts around decl asks (place + 1)
    (compared_with (asks place) compared (meant_by facts around expr)) more

-- what is wrong with the arguments of a constraint whose name stands there
abbrev pub constraint_faults : Facts → Surroundings → ℕ → Kind → ℕ → List Expr → List Fault
constraint_faults facts around decl kind at exprs =
    if takes kind (length exprs)
    then arguments_faults facts around decl (asked_among (are_decimals facts around kind 0 exprs) kind) 0 None exprs
    else faults_here decl at (Some faults.WrongCount)

-- ---- guards

-- what is asked of two arguments that are compared and mean this
abbrev pub asked_of_both : Denoted → Denoted → Asked
asked_of_both one other = if is_decimal one || is_decimal other then asked.Of kinds.Float else asked.Compared

-- what is wrong with two arguments that are compared, of which this is asked
abbrev pub both_faults : Facts → Surroundings → ℕ → Asked → Expr → Expr → List Fault
both_faults facts around decl asks one other =
    argument_faults facts around decl asks None one
    ++ argument_faults facts around decl asks (compared_with asks None (meant_by facts around one)) other

-- what is wrong with two arguments that are compared
abbrev pub compared_faults : Facts → Surroundings → ℕ → Expr → Expr → List Fault
compared_faults facts around decl one other =
    both_faults facts around decl (asked_of_both (meant_by facts around one) (meant_by facts around other)) one other

-- what is wrong with what an `if` tests
abbrev pub condition_faults : Facts → Surroundings → ℕ → Condition → List Fault
condition_faults facts around decl (conditions.Truth expr) =
    argument_faults facts around decl (asked.Of kinds.Bool) None expr
condition_faults facts around decl (conditions.Equal one other) = compared_faults facts around decl one other
condition_faults facts around decl (conditions.NotEqual one other) = compared_faults facts around decl one other

-- ---- local variables

-- what is asked of what a variable of this type begins as
abbrev pub asked_by_type : Facts → types.Type → Asked
asked_by_type facts type = option_map_or asked.Of (base_kind facts.names facts.known type.base) asked.Compared

-- what is wrong with what a local variable of this type begins as: no rule makes objects
abbrev pub init_faults : Facts → Surroundings → ℕ → types.Type → Option Init → List Fault
init_faults facts around decl type None = []
init_faults facts around decl type (Some (inits.New creation)) = faults_here decl creation.at (Some faults.WrongType)
init_faults facts around decl type (Some (inits.Expr expr)) =
    argument_faults facts around decl (asked_by_type facts type) None expr
