-- What is so of each value of a domain.
use Rattle.std.proofs.Common.{◌≡◌, ℕ, ℤ, ◌+◌, ◌<◌, ◌≤◌, sym, ◌∙◌, subst, inl, inr, arith}
use Rattle.std.proofs.lemmas.Bool.{cases_lt}
use Rattle.std.proofs.lemmas.Int.{ints}
use Rattle.std.proofs.lemmas.List.{get_or_default}
use Rattle.domain_core.specs.Domain.{Domain, Range, Set, IsDomain, IsValue, Has, IsNth, count_of}
use Rattle.domain_core.proofs.Words.{has_value, place_of, at_place}
use Rattle.model_core.specs.declared.model.Model.{Model}
use Rattle.model_core.specs.declared.variable.ValueKind.{ValueKind}
use Rattle.model_core.specs.declared.variable.ValueKind.TheVariants.{Int, Float}
use Rattle.model_core.specs.Kinds.{IsInKind, IsNumeric, IsValueOf}

-- one value stands at a place
pub nth_once : (domain : Domain) (place : ℕ) (one other : ℤ) → IsNth domain place one → IsNth domain place other → one ≡ other
nth_once (Range lo hi) place one other is are = is.0 ∙ sym are.0
nth_once (Set members) place one other is are = sym is.1 ∙ (get_or_default members place one other is.0 ∙ are.1)

-- no value stands behind the last one
pub nth_below : (domain : Domain) (place : ℕ) (value : ℤ) → IsNth domain place value → count_of domain ≤ place → ⊥
nth_below (Range lo hi) place value at past = omega (arith, ints, at.0, at.1, past)
nth_below (Set members) place value at past = omega (arith, at.0, past)

-- it is so of the values at the first places
abbrev pub AreSoUpTo : Domain → (ℤ → Type 0) → ℕ → Type 0
AreSoUpTo domain P count = (place : ℕ) (value : ℤ) → place < count → IsNth domain place value → P value

module _ (domain : Domain) (P : ℤ → Type 0) where
  pub none_yet : AreSoUpTo domain P 0
  none_yet place value below is = absurd (omega arith)

  pub so_less : (count : ℕ) → AreSoUpTo domain P (count + 1) → AreSoUpTo domain P count
  so_less count so place value below is = so place value (omega arith) is

  pub so_more : (count : ℕ) → AreSoUpTo domain P count → ((value : ℤ) → IsNth domain count value → P value) → AreSoUpTo domain P (count + 1)
  so_more count before here place value below is = elim (cases_lt place count) [
    | inl less ↦ before place value less is
    | inr past ↦ (
        let same : place ≡ count = omega arith in
        here value (subst (λ (n : ℕ). IsNth domain n value) same is))
  ]

  pub so_all : (count : ℕ) → IsDomain domain → ((value : ℤ) → Has domain value → P value) → AreSoUpTo domain P count
  so_all count lawful all place value below is = all value (at_place domain place value lawful is).0

  pub all_so : (count : ℕ) → IsDomain domain → count_of domain ≤ count → AreSoUpTo domain P count → (value : ℤ) → Has domain value → P value
  all_so count lawful past before value has =
      let at = place_of domain value lawful has in
      before at.0 value (omega (arith, at.1, past)) at.2

  pub not_all : (place : ℕ) (value : ℤ) → IsDomain domain → IsNth domain place value → (P value → ⊥) → ((other : ℤ) → Has domain other → P other) → ⊥
  not_all place value lawful at not all = not (all value (at_place domain place value lawful at).0)

-- every value is of each kind of numbers
number_of : (model : Model) (kind : ValueKind) (value : ℤ) → IsNumeric kind → IsValue value → IsValueOf model kind value
number_of model Int value numeric is = is
number_of model Float value numeric is = is
number_of model kind value numeric is = absurd numeric

-- so every domain lies in it
pub in_numeric : (model : Model) (kind : ValueKind) (domain : Domain) → IsDomain domain → IsNumeric kind → IsInKind model kind domain
in_numeric model kind domain lawful numeric = record {
  values = λ value has. number_of model kind value numeric (has_value domain value lawful has);
  range = λ range. numeric;
}
