-- The decimals for which numbers stand are values.
use Rattle.std.proofs.Common.{◌≡◌, Bool, true, false, ℤ, pos, ◌*ℤ◌, refl, subst, arith}
use Rattle.std.specs.Prelude.{Option, Some, None, if◌then◌else◌}
use Rattle.std.proofs.lemmas.Option.{same_Some, none-some}
use Rattle.std.proofs.lemmas.Int.{ints}
use Rattle.domain_core.specs.Domain.{IsValue}
use Rattle.nddl_ast.specs.declared.expression.Constant.{Constant}
use Rattle.nddl_ast.specs.declared.expression.Constant.TheVariants as constants
use Rattle.nddl_ast.specs.Decimals.{constant_decimal, decimal_for, has_decimal_for, is_unlimited}
use Rattle.nddl_laws.specs.Fine.{IsFineConstant}

few_thousand : (number : ℤ) → has_decimal_for number ≡ true → IsValue (number *ℤ pos 1000)
few_thousand number has = (grind (arith, ints), grind (arith, ints))

-- a number stands for one of them
pub decimal_kept : (number decimal : ℤ) → IsValue number → decimal_for number ≡ Some decimal → IsValue decimal
decimal_kept number decimal right is = by (is_unlimited number) (has_decimal_for number) refl is
  where
    by : (end few : Bool) → has_decimal_for number ≡ few
        → (if end then Some number else (if few then Some (number *ℤ pos 1000) else None)) ≡ Some decimal → IsValue decimal
    by true few has is = subst IsValue (same_Some number decimal is) right
    by false true has is = subst IsValue (same_Some (number *ℤ pos 1000) decimal is) (few_thousand number has)
    by false false has is = absurd (none-some decimal is)

-- and so does a constant
pub constant_kept : (constant : Constant) (decimal : ℤ) → IsFineConstant constant → constant_decimal constant ≡ Some decimal → IsValue decimal
constant_kept (constants.Number number) decimal fine is = decimal_kept number decimal fine is
constant_kept (constants.Decimal thousandths) decimal fine is = subst IsValue (same_Some thousandths.0 decimal is) fine
constant_kept (constants.Truth truth) decimal fine is = absurd (none-some decimal is)
