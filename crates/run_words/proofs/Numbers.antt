-- Numbers without a sign.
use Rattle.std.proofs.Common.{◌≡◌, ◌∙◌, ◌<◌, ◌≤◌, ◌==◌, ℕ, Bool, cond, true, false, refl, sym, ap, subst, arith, List, [], ◌∷◌, length, drop, Option, Some, None, unwrap_or}
use Rattle.std.specs.Prelude.{slice_get, slice_index}
use Rattle.std.specs.Char.{digit_value}
use Rattle.std.specs.Str.Parse.{AllDigits, IsNumeral, digits_value, without_leading_plus}
use Rattle.std.proofs.lemmas.Bool.{ne_eqb}
use Rattle.run_words.specs.Requests.{IsNumber}

-- no numeral begins with `+`
pub plus_none : (text : List ℕ) → slice_get text 0 ≡ Some 43 → IsNumeral 10 text → ⊥
plus_none [] e is = cc
plus_none (x ∷ xs) e is =
    let plus : x ≡ 43 = ap (λ (o : Option ℕ). unwrap_or o 0) e in
    let digit : digit_value 43 < 10 = subst (λ (k : ℕ). digit_value k < 10) plus is.1.0 in absurd (omega (arith, digit))

-- a text that doesn't begin with `+` is read as it stands
pub no_plus : (text : List ℕ) → (slice_get text 0 ≡ Some 43 → ⊥) → without_leading_plus text ≡ text
no_plus [] none = refl
no_plus (x ∷ xs) none = rw (ne_eqb x 43 (λ is. none (ap (λ (k : ℕ). Some k) is))) refl

pub numeral_plus : (text : List ℕ) → IsNumeral 10 text → without_leading_plus text ≡ text
numeral_plus text is = no_plus text (λ e. plus_none text e is)
