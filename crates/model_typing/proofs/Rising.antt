-- Classes that are over others.
use Rattle.std.proofs.Common.{ℕ, List, [], ◌∷◌, ◌++◌, ◌⊎◌, ◌↔◌, inl, inr, sym, subst}
use Rattle.model_core.specs.declared.model.Model.{Model}
use Rattle.model_core.specs.Kinds.{Climbs, IsUnder}
use Rattle.model_typing.proofs.Under.{one_parent}

module _ (model : Model) where
  climbs_on : (class : ℕ) (path : List ℕ) (middle : ℕ) (more : List ℕ) (top : ℕ) → Climbs model class path middle → Climbs model middle more top
      → Climbs model class (path ++ more) top
  climbs_on class [] middle more top same up = subst (λ (n : ℕ). Climbs model n more top) same up
  climbs_on class (parent ∷ path) middle more top climbs up = (climbs.0, climbs_on parent path middle more top climbs.1 up)

  pub under_on : (class middle top : ℕ) → IsUnder model class middle → IsUnder model middle top → IsUnder model class top
  under_on class middle top one other = (one.0 ++ other.0, climbs_on class one.0 middle other.0 top one.1 other.1)

  -- of two classes that one is under, one is under the other
  two_above : (class : ℕ) (path : List ℕ) (one : ℕ) (way : List ℕ) (other : ℕ) → Climbs model class path one → Climbs model class way other
      → IsUnder model one other ⊎ IsUnder model other one
  two_above class [] one way other same up = inl (way, subst (λ (n : ℕ). Climbs model n way other) (sym same) up)
  two_above class (parent ∷ path) one [] other up same = inr (parent ∷ path, subst (λ (n : ℕ). Climbs model n (parent ∷ path) one) (sym same) up)
  two_above class (parent ∷ path) one (next ∷ way) other up more =
      two_above parent path one way other up.1
      (subst (λ (n : ℕ). Climbs model n way other) (one_parent model class next parent more.0 up.0) more.1)

  -- a class further up that isn't over the other one may be gone on from
  pub goes_up : (first other here next : ℕ)
      → ((class : ℕ) → IsUnder model first class → IsUnder model other class → IsUnder model here class)
      → IsUnder model here next → (IsUnder model other next → ⊥)
      → (class : ℕ) → IsUnder model first class → IsUnder model other class → IsUnder model next class
  goes_up first other here next so_far up none class under over =
      let above = so_far class under over in
      elim (two_above here up.0 next above.0 class up.1 above.1) [
        | inl higher ↦ higher
        | inr lower ↦ absurd (none (under_on other class next over lower))
      ]

  -- what is over the lowest class over both is over both
  pub over_both : (first other both : ℕ) → IsUnder model first both → IsUnder model other both
      → ((class : ℕ) → IsUnder model first class → IsUnder model other class → IsUnder model both class)
      → (class : ℕ) → (IsUnder model first class × IsUnder model other class) ↔ IsUnder model both class
  over_both first other both one two lowest class = (
    λ over. lowest class over.0 over.1,
    λ under. (under_on first both class one under, under_on other both class two under),
  )
