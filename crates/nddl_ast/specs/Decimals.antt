-- What numbers stand for where a decimal is wanted.
use Rattle.std.specs.Prelude.{ℤ, pos, negsuc, ◌*ℤ◌, int_le, ◌&&◌, ◌||◌, Bool, Option, Some, None, if◌then◌else◌}
use Rattle.std.specs.Ordering.{int_eq}
use Rattle.nddl_ast.specs.declared.expression.Constant.{Constant}
use Rattle.nddl_ast.specs.declared.expression.Constant.TheVariants as constants
use Rattle.nddl_ast.specs.declared.expression.Expr.{Expr}
use Rattle.nddl_ast.specs.declared.expression.Expr.TheVariants as exprs

-- the number is the greatest or the least, so it sets no limit
abbrev pub is_unlimited : ℤ → Bool
is_unlimited number = int_eq number (pos 1000000) || int_eq number (negsuc 999999)

-- a decimal is that many
abbrev pub has_decimal_for : ℤ → Bool
has_decimal_for number = int_le (negsuc 999) number && int_le number (pos 1000)

-- The decimal, in thousandths, for which a number stands where a decimal is wanted. The greatest and the least number stand
-- for the greatest and the least decimal, which are as many thousandths; another beyond 1,000 stands for none.
abbrev pub decimal_for : ℤ → Option ℤ
decimal_for number =
    if is_unlimited number then Some number
    else (if has_decimal_for number then Some (number *ℤ pos 1000) else None)

-- the decimal, in thousandths, that a constant is or stands for
abbrev pub constant_decimal : Constant → Option ℤ
constant_decimal (constants.Number number) = decimal_for number
constant_decimal (constants.Decimal thousandths) = Some thousandths.0
constant_decimal (constants.Truth truth) = None

-- the number that is written out
abbrev pub constant_number : Constant → Option ℤ
constant_number (constants.Number number) = Some number
constant_number constant = None

-- the number that the argument is, if it is one that is written out
abbrev pub written_number : Expr → Option ℤ
written_number (exprs.Literal literal) = constant_number literal.constant
written_number (exprs.Path path) = None
