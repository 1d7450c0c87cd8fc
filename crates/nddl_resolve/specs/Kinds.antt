-- What is wrong with an argument of one kind where another is wanted.
use Rattle.std.specs.Prelude.{ℤ, not, Option}
use Rattle.std.specs.Option.{is_none, option_map_or}
use Rattle.nddl_ast.specs.declared.kind.TextKind.{TextKind}
use Rattle.nddl_ast.specs.declared.kind.TextKind.TheVariants as faults
use Rattle.nddl_ast.specs.declared.expression.Expr.{Expr}
use Rattle.nddl_ast.specs.Decimals.{decimal_for, written_number}
use Rattle.nddl_symbols.specs.Scope.{fault_if}
use Rattle.nddl_typeexpr.specs.declared.kind.TypeKind.{TypeKind}
use Rattle.nddl_typeexpr.specs.declared.kind.TypeKind.TheVariants as kinds
use Rattle.nddl_typeexpr.specs.Kinds.{are_one_kind}

-- what is wrong with a number that is written where a decimal is wanted
abbrev pub number_fault : ℤ → Option TextKind
number_fault number = fault_if (is_none (decimal_for number)) faults.NotInDomain

-- what is wrong with a value of the second kind where one of the first is wanted
abbrev pub other_kind_fault : TypeKind → TypeKind → Option TextKind
other_kind_fault wanted kind = fault_if (not (are_one_kind wanted kind)) faults.WrongType

-- What is wrong with an argument that means a value of the second kind where one of the first is wanted. A number that is
-- written may stand for a decimal.
abbrev pub kind_fault : TypeKind → Expr → TypeKind → Option TextKind
kind_fault kinds.Float expr kind = option_map_or number_fault (written_number expr) (other_kind_fault kinds.Float kind)
kind_fault wanted expr kind = other_kind_fault wanted kind
