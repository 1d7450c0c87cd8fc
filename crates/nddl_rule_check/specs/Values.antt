-- Which values may stand as arguments.
use Rattle.std.specs.Prelude.{Bool, true, false, not, pos, Option, Some, None}
use Rattle.std.specs.Ordering.{int_eq}
use Rattle.std.specs.Option.{option_or}
use Rattle.nddl_ast.specs.declared.expression.Constant.{Constant}
use Rattle.nddl_ast.specs.declared.expression.Constant.TheVariants as constants
use Rattle.nddl_ast.specs.declared.expression.Expr.{Expr}
use Rattle.nddl_ast.specs.declared.expression.Expr.TheVariants as exprs
use Rattle.nddl_ast.specs.declared.kind.TextKind.{TextKind}
use Rattle.nddl_ast.specs.declared.kind.TextKind.TheVariants as faults
use Rattle.nddl_symbols.specs.Scope.{fault_if}
use Rattle.nddl_typeexpr.specs.declared.kind.TypeKind.{TypeKind}
use Rattle.nddl_typeexpr.specs.declared.kind.TypeKind.TheVariants as kinds
use Rattle.nddl_resolve.specs.declared.denoted.Denoted.{Denoted}
use Rattle.nddl_resolve.specs.declared.denoted.Denoted.TheVariants as denoted
use Rattle.nddl_resolve.specs.Kinds.{kind_fault}
use Rattle.nddl_rule_check.specs.declared.asked.Asked.{Asked}
use Rattle.nddl_rule_check.specs.declared.asked.Asked.TheVariants as asked

-- of which kind the value is, if it is one
abbrev pub kind_of_value : Denoted → Option TypeKind
kind_of_value (denoted.Value kind constant) = Some kind
kind_of_value other = None

-- it means a value of kind float
abbrev pub is_decimal : Denoted → Bool
is_decimal (denoted.Value kinds.Float constant) = true
is_decimal other = false

-- What is wrong with an argument where a value is wanted, of this kind if any: it means none, or one of another kind. Of what
-- hangs on something faulty nothing is said.
abbrev pub unfit_value_fault : Option TypeKind → Expr → Denoted → Option TextKind
unfit_value_fault None expr (denoted.Value kind constant) = None
unfit_value_fault (Some wanted) expr (denoted.Value kind constant) = kind_fault wanted expr kind
unfit_value_fault wanted expr denoted.Faulty = None
unfit_value_fault wanted expr other = Some faults.WrongType

abbrev pub is_factor_constant : Constant → Bool
is_factor_constant (constants.Number number) = not (int_eq number (pos 0))
is_factor_constant constant = false

-- it is a number that is written out, other than 0
abbrev pub is_factor : Expr → Bool
is_factor (exprs.Literal literal) = is_factor_constant literal.constant
is_factor (exprs.Path path) = false

-- what is wrong with the argument, of which this is asked, where those that are compared before it are of this kind
abbrev pub unfit_fault : Asked → Option TypeKind → Expr → Denoted → Option TextKind
unfit_fault (asked.Of kind) compared expr meant = unfit_value_fault (Some kind) expr meant
unfit_fault asked.Compared compared expr meant = unfit_value_fault compared expr meant
unfit_fault asked.Factor compared expr meant = fault_if (not (is_factor expr)) faults.WrongType

-- of which kind those are that are compared, with one argument more: the first that has a kind gives it
abbrev pub compared_with : Asked → Option TypeKind → Denoted → Option TypeKind
compared_with asked.Compared compared meant = option_or compared (kind_of_value meant)
compared_with other compared meant = compared
