-- What a view tells of values.
use Rattle.std.proofs.Common.{◌≡◌, ℕ, ◌+◌, List, [], ◌∷◌, ◌++◌, length, zero, suc, Option, Some, None, ℤ, ◌⊎◌, inl, inr, refl, sym, ap, ◌∙◌, subst, arith}
use Rattle.std.specs.Prelude.{slice_get, MatchOption, IfSome, IfNone}
use Rattle.std.proofs.lemmas.List.{length-append}
use Rattle.domain_core.specs.Domain.{Domain, IsSingle}
use Rattle.eu_name.specs.declared.name.Part.{Part}
use Rattle.eu_name.specs.declared.name.TokenName.{TokenName}
use Rattle.eu_name.specs.declared.name.VarName.{VarName}
use Rattle.eu_name.specs.declared.name.VarName.TheVariants as variables
use Rattle.model_core.specs.State.{State, Gives, AreInOrder}
use Rattle.model_core.specs.Views.{IsTokenAt}
use Rattle.plan_defs.specs.Plans.{place_in_values}
use Rattle.plan_defs.proofs.States.{gives_same}
use Rattle.plan_defs.proofs.Parting.{same_part}
use Rattle.plan_defs.specs.StatePlans.{GivesOnly}
use Rattle.plan_defs.specs.Surveying.{AreFirstValues}

pub one_at : (state : State) (place : ℕ) (one other : TokenName) → IsTokenAt state place one → IsTokenAt state place other → one ≡ other
one_at state place one other p q = cc

module _ (state : State) (order : AreInOrder state) where
  no_value : (name other : VarName) (domain : Domain) (value : ℤ) → other ≡ name → Gives state name domain → ((v : ℤ) → IsSingle domain v → ⊥) → GivesOnly state other value → ⊥
  no_value name other domain value same gives none has =
      let d = gives_same state order name has.0 domain (subst (λ n. Gives state n has.0) same has.1) gives in
      none value (subst (λ x. IsSingle x value) d has.2)

  pub value_told : (name : VarName) (domain : Domain) (found : Option ℤ) → Gives state name domain
      → IfSome found (λ value. IsSingle domain value) → IfNone found ((value : ℤ) → IsSingle domain value → ⊥)
      → MatchOption found ((value : ℤ) → GivesOnly state name value → ⊥) (GivesOnly state name)
  value_told name domain (Some value) gives some none = (domain, gives, some)
  value_told name domain None gives some none = λ value has. no_value name name domain value refl gives none has

  pub value_told_at : (variable_of : TokenName → VarName) (place : ℕ) (domain : Domain) (found : Option ℤ)
      → ((token : TokenName) × IsTokenAt state place token × Gives state (variable_of token) domain)
      → IfSome found (λ value. IsSingle domain value) → IfNone found ((value : ℤ) → IsSingle domain value → ⊥)
      → MatchOption found ((token : TokenName) (value : ℤ) → IsTokenAt state place token → GivesOnly state (variable_of token) value → ⊥)
      (λ value. (token : TokenName) × IsTokenAt state place token × GivesOnly state (variable_of token) value)
  value_told_at variable_of place domain (Some value) has some none = (has.0, has.1, (domain, has.2, some))
  value_told_at variable_of place domain None has some none = λ token value at is.
      no_value (variable_of has.0) (variable_of token) domain value (ap variable_of (one_at state place token has.0 at has.1)) has.2 none is

-- ---- values in order

-- an item of a list behind which one more was put
pub push_get : {X : Type 0} (xs : List X) (v w : X) (k : ℕ) → slice_get (xs ++ v ∷ []) k ≡ Some w → (slice_get xs k ≡ Some w) ⊎ ((k ≡ length xs) × (v ≡ w))
push_get [] v w zero e = inr (refl, cc)
push_get [] v w (suc k) e = absurd (cc)
push_get (x ∷ xs) v w zero e = inl e
push_get (x ∷ xs) v w (suc k) e = elim (push_get xs v w k e) [ inl old ↦ inl old | inr last ↦ inr (omega (arith, last.0), last.1) ]

longer : {X : Type 0} (xs ys : List X) (v : X) (count : ℕ) → length xs ≡ count → ys ≡ xs ++ v ∷ [] → length ys ≡ count + 1
longer xs ys v count long is = omega (arith, ap length is, length-append xs (v ∷ []), long)

module _ (state : State) (place : ℕ) where
  pub first_none : AreFirstValues state place 0 []
  first_none = record { long = refl; are = λ token part value at e. absurd (cc) }

  module _ (count : ℕ) (old new : List ℤ) (part : Part) (value : ℤ) (first : AreFirstValues state place count old) (next : place_in_values part ≡ count)
      (is : new ≡ old ++ value ∷ []) (has : (token : TokenName) × IsTokenAt state place token × GivesOnly state (variables.Token token part) value) where
    either : (token : TokenName) (which : Part) (found : ℤ) → IsTokenAt state place token
        → (slice_get old (place_in_values which) ≡ Some found) ⊎ ((place_in_values which ≡ length old) × (value ≡ found)) → GivesOnly state (variables.Token token which) found
    either token which found at (inl old_one) = first.are token which found at old_one
    either token which found at (inr last) =
        let same : part ≡ which = same_part part which (next ∙ (sym first.long ∙ sym last.0)) in
        subst (λ v. GivesOnly state (variables.Token token which) v) last.1
        (subst (λ p. GivesOnly state (variables.Token token p) value) same
        (subst (λ t. GivesOnly state (variables.Token t part) value) (one_at state place has.0 token has.1 at) has.2))

    pub first_more : AreFirstValues state place (count + 1) new
    first_more = record {
      long = longer old new value count first.long is;
      are = λ token which found at e.
          either token which found at (push_get old value found (place_in_values which) (subst (λ list. slice_get list (place_in_values which) ≡ Some found) is e));
    }

-- the first values of globals
pub record AreGlobalsUpTo (state : State) (count : ℕ) (values : List ℤ) : Type 0 where
  pub long : length values ≡ count
  pub are : (number : ℕ) (value : ℤ) → slice_get values number ≡ Some value → GivesOnly state (variables.Global number) value

module _ (state : State) where
  pub globals_none : AreGlobalsUpTo state 0 []
  globals_none = record { long = refl; are = λ number value e. absurd (cc) }

  module _ (count : ℕ) (old new : List ℤ) (value : ℤ) (first : AreGlobalsUpTo state count old) (is : new ≡ old ++ value ∷ [])
      (has : GivesOnly state (variables.Global count) value) where
    either_global : (number : ℕ) (found : ℤ) → (slice_get old number ≡ Some found) ⊎ ((number ≡ length old) × (value ≡ found)) → GivesOnly state (variables.Global number) found
    either_global number found (inl old_one) = first.are number found old_one
    either_global number found (inr last) =
        let same : count ≡ number = omega (arith, last.0, first.long) in
        subst (λ v. GivesOnly state (variables.Global number) v) last.1 (subst (λ n. GivesOnly state (variables.Global n) value) same has)

    pub globals_more : AreGlobalsUpTo state (count + 1) new
    globals_more = record {
      long = longer old new value count first.long is;
      are = λ number found e. either_global number found (push_get old value found number (subst (λ list. slice_get list number ≡ Some found) is e));
    }
