-- What supports a value where the values of the others count.
use Rattle.std.proofs.Common.{◌≡◌, ℤ, refl, sym, ◌∙◌, subst, arith}
use Rattle.std.specs.Prelude.{◌↔◌}
use Rattle.std.proofs.lemmas.Int.{ints, by_lt_z}
use Rattle.domain_core.specs.Domain.{Domain, IsDomain, Has, least, greatest}
use Rattle.domain_core.proofs.Words.{has_least, has_greatest, between_ends}

pub equal_to_some : (y : Domain) (value : ℤ) → Has y value ↔ ((w : ℤ) × Has y w × (value ≡ w))
equal_to_some y value = (λ has. (value, has, refl), λ some. subst (Has y) (sym some.2) some.1)

pub some_equal_to : (x : Domain) (value : ℤ) → Has x value ↔ ((w : ℤ) × Has x w × (w ≡ value))
some_equal_to x value = (λ has. (value, has, refl), λ some. subst (Has x) some.2 some.1)

-- ---- values that differ

-- two numbers are equal or not
pub same_or_not : {P : Type 0} (a b : ℤ) → (a ≡ b → P) → ((a ≡ b → ⊥) → P) → P
same_or_not a b same apart =
    by_lt_z a b
    (λ less. apart (λ e. omega (arith, ints, less, e)))
    (λ from. by_lt_z b a (λ more. apart (λ e. omega (arith, ints, more, e))) (λ upto. same (omega (arith, ints, from, upto))))

-- the other domain has a value from which this one differs
abbrev pub IsApart : Domain → ℤ → Type 0
IsApart other value = (w : ℤ) × Has other w × (value ≡ w → ⊥)

pub apart_single : (other : Domain) (single value : ℤ) → IsDomain other → single ≡ least other → single ≡ greatest other → (value ≡ single → ⊥) ↔ IsApart other value
apart_single other single value ok low high = (
  λ apart. (least other, has_least other ok, λ e. apart (e ∙ sym low)),
  λ some e.
      let between = between_ends other some.0 ok some.1 in
      some.2 (omega (arith, ints, between.0, between.1, low, high, e)),
)

pub apart_any : (other : Domain) (value : ℤ) → IsDomain other → (least other ≡ greatest other → ⊥) → IsApart other value
apart_any other value ok many =
    same_or_not value (least other)
    (λ same. (greatest other, has_greatest other ok, λ e. many (sym same ∙ e)))
    (λ apart. (least other, has_least other ok, apart))

pub apart_back : (other : Domain) (value : ℤ) → IsApart other value ↔ ((w : ℤ) × Has other w × (w ≡ value → ⊥))
apart_back other value = (λ some. (some.0, some.1, λ e. some.2 (sym e)), λ some. (some.0, some.1, λ e. some.2 (sym e)))
