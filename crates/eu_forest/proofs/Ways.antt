-- What leads up to a root is short, and is the whole line.
use Rattle.std.proofs.Common.{◌≡◌, ℕ, zero, suc, ◌<◌, ◌≤◌, List, [], ◌∷◌, length, refl, sym, ◌∙◌, ap, subst, arith}
use Rattle.std.specs.Prelude.{Option, Some, None, slice_get}
use Rattle.std.specs.List.{AllByRecursion}
use Rattle.std.specs.Option.{option_and_then}
use Rattle.std.proofs.lemmas.Option.{same_Some, slice_get_within}
use Rattle.eu_forest.specs.Lines.{IsOnCircle, LeadsUp, StandsUnder}
use Rattle.eu_forest.proofs.Chains.{circle_returns}
use Rattle.eu_forest.specs.Ancestors.{ancestry, line_from, parent_in}
use Rattle.eu_forest.proofs.Fewer.{AreDistinct, few_distinct}

-- what leads up to a root is on no circle
pub rooted_off : (parents : List (Option ℕ)) (number : ℕ) (path : List ℕ) (root : ℕ) → LeadsUp parents number path root
    → slice_get parents root ≡ Some None → IsOnCircle parents number → ⊥
rooted_off parents number path root leads ends circle =
    let back = circle_returns parents number path root circle leads in by back.0 back.1
  where
    at : (parent : ℕ) → StandsUnder parents root parent → ⊥
    at parent under = (let e : ◌≡◌ {A = Option ℕ} None (Some parent) = same_Some None (Some parent) (sym ends ∙ under) in cc)

    by : (back : List ℕ) → LeadsUp parents root back number → ⊥
    by [] same = let P : ℕ → Type 0 = λ n. StandsUnder parents n circle.parent in at circle.parent (subst P same circle.under)
    by (parent ∷ path) up = at parent up.0

-- a thing of a way up is reached
reached : (parents : List (Option ℕ)) (number : ℕ) (path : List ℕ) (root : ℕ) → LeadsUp parents number path root → (P : ℕ → Type 0)
    → ((way : List ℕ) (other : ℕ) → LeadsUp parents number way other → P other) → AllByRecursion P path
reached parents number [] root leads P each = tt
reached parents number (parent ∷ path) root leads P each = (
  each (parent ∷ []) parent (leads.0, refl),
  reached parents parent path root leads.1 P (λ way other up. each (parent ∷ way) other (leads.0, up)),
)

module _ (parents : List (Option ℕ)) where
  -- what leads up to one that stands under none goes over distinct things
  distinct_way : (number : ℕ) (path : List ℕ) (root : ℕ) → LeadsUp parents number path root → slice_get parents root ≡ Some None → AreDistinct (number ∷ path)
  distinct_way number [] root leads ends = (tt, tt)
  distinct_way number (parent ∷ path) root leads ends = (
    (λ same. off [] parent refl same, reached parents parent path root leads.1 (λ other. number ≡ other → ⊥) (λ way other up same. off way other up same)),
    distinct_way parent path root leads.1 ends,
  )
    where
      off : (way : List ℕ) (other : ℕ) → LeadsUp parents parent way other → number ≡ other → ⊥
      off way other up same =
          let P : ℕ → Type 0 = λ n. LeadsUp parents parent way n in
          rooted_off parents number (parent ∷ path) root leads ends
          (record { parent = parent; path = way; under = leads.0; back = subst P (sym same) up })

  pub within_way : (number : ℕ) (path : List ℕ) (root : ℕ) → LeadsUp parents number path root → slice_get parents root ≡ Some None
      → AllByRecursion (λ y. y < length parents) (number ∷ path)
  within_way number [] root leads ends = (
    slice_get_within parents number None (let P : ℕ → Type 0 = λ n. slice_get parents n ≡ Some None in subst P leads ends),
    tt,
  )
  within_way number (parent ∷ path) root leads ends = (slice_get_within parents number (Some parent) leads.0, within_way parent path root leads.1 ends)

  pub short_way : (number : ℕ) (path : List ℕ) (root : ℕ) → LeadsUp parents number path root → slice_get parents root ≡ Some None → length (number ∷ path) ≤ length parents
  short_way number path root leads ends =
      few_distinct (length parents) (number ∷ path) (distinct_way number path root leads ends) (within_way number path root leads ends)

  pub parent_is : (number parent : ℕ) → StandsUnder parents number parent → parent_in parents number ≡ Some parent
  parent_is number parent under = ap (option_and_then (λ (p : Option ℕ). p)) under

  pub no_parent_is : (number : ℕ) → slice_get parents number ≡ Some None → parent_in parents number ≡ None
  no_parent_is number none = ap (option_and_then (λ (p : Option ℕ). p)) none

  pub line_of_none : (levels : ℕ) → line_from levels parents None ≡ []
  line_of_none zero = refl
  line_of_none (suc levels) = refl

  -- with levels enough the line is the way
  line_is_way : (levels number : ℕ) (path : List ℕ) (root : ℕ) → LeadsUp parents number path root → slice_get parents root ≡ Some None
      → length (number ∷ path) ≤ levels → line_from levels parents (Some number) ≡ number ∷ path
  line_is_way zero number path root leads ends enough = absurd (omega arith)
  line_is_way (suc levels) number [] root leads ends enough =
      let none : parent_in parents number ≡ None =
      no_parent_is number (let P : ℕ → Type 0 = λ n. slice_get parents n ≡ Some None in subst P leads ends) in
      ap (λ rest. number ∷ rest) (ap (line_from levels parents) none ∙ line_of_none levels)
  line_is_way (suc levels) number (parent ∷ path) root leads ends enough =
      ap (λ rest. number ∷ rest)
      (ap (line_from levels parents) (parent_is number parent leads.0) ∙ line_is_way levels parent path root leads.1 ends (omega arith))

  pub ancestry_is : (number : ℕ) (path : List ℕ) (root : ℕ) → LeadsUp parents number path root → slice_get parents root ≡ Some None → ancestry parents number ≡ number ∷ path
  ancestry_is number path root leads ends =
      line_is_way (length parents) number path root leads ends (short_way number path root leads ends)
