-- The line of a class is that of the class which it extends, and then the class itself.
use Rattle.std.proofs.Common.{◌≡◌, ℕ, List, [], ◌∷◌, ◌++◌, refl, sym, ◌∙◌, ap, subst}
use Rattle.std.specs.Prelude.{Option, Some, None, slice_get, reverse}
use Rattle.std.proofs.lemmas.List.{reverse-append}
use Rattle.std.proofs.lemmas.Option.{same_Some, none-some}
use Rattle.eu_forest.specs.Lines.{IsRooted, LeadsUp, StandsUnder}
use Rattle.eu_forest.specs.Ancestors.{ancestry}
use Rattle.eu_forest.proofs.Ways.{ancestry_is}

module _ (parents : List (Option ℕ)) where
  -- what stands under none
  pub line_alone : (number : ℕ) → slice_get parents number ≡ Some None → reverse (ancestry parents number) ≡ number ∷ []
  line_alone number none = ap reverse (ancestry_is parents number [] number refl none)

  -- and what stands under another that leads up to such
  pub line_below : (number parent : ℕ) → StandsUnder parents number parent → IsRooted parents number
      → reverse (ancestry parents number) ≡ reverse (ancestry parents parent) ++ number ∷ []
  line_below number parent under rooted = by rooted.path rooted.leads
    where
      by : (path : List ℕ) → LeadsUp parents number path rooted.root → reverse (ancestry parents number) ≡ reverse (ancestry parents parent) ++ number ∷ []
      by [] leads =
          let P : ℕ → Type 0 = λ n. slice_get parents n ≡ Some None in
          let none = subst P leads rooted.ends in
          absurd (none-some parent (same_Some None (Some parent) (sym none ∙ under)))
      by (next ∷ path) leads =
          let same : next ≡ parent = same_Some next parent (same_Some (Some next) (Some parent) (sym leads.0 ∙ under)) in
          let P : ℕ → Type 0 = λ n. LeadsUp parents n path rooted.root in
          let up = subst P same leads.1 in
          ap reverse (ancestry_is parents number (next ∷ path) rooted.root leads rooted.ends ∙ ap (λ n. number ∷ n ∷ path) same)
          ∙ (reverse-append (number ∷ []) (parent ∷ path)
          ∙ ap (λ rest. reverse rest ++ number ∷ []) (sym (ancestry_is parents parent path rooted.root up rooted.ends)))
