-- What stands under a token, and what keeps clear of it.
use Rattle.std.proofs.Common.{◌≡◌, Bool, true, false, not, inl, inr, List, [], ◌∷◌, length, Option, Some, None, refl, sym, ap, ◌∙◌, arith}
use Rattle.std.proofs.lemmas.List.{length-append}
use Rattle.eu_name.specs.declared.name.Step.{Step}
use Rattle.eu_name.specs.declared.name.TokenName.{TokenName}
use Rattle.eu_name.specs.declared.name.VarName.{VarName}
use Rattle.eu_name.specs.declared.name.VarName.TheVariants as names
use Rattle.law_search.specs.Swapping.{token_under, steps_from}
use Rattle.law_search.proofs.Renaming.{from_some, from_itself, step_token, step_under}

-- whether there are steps, and whether there is a first one
abbrev has_first : Option (List Step) → Bool
has_first None = false
has_first (Some []) = false
has_first (Some (step ∷ steps)) = true

abbrev has_some : Option (List Step) → Bool
has_some None = false
has_some (Some steps) = true

true_false : true ≡ false → ⊥
true_false e = cc

module _ (top : TokenName) where
  -- the token stands under the top
  abbrev pub IsUnderTop : TokenName → Type 0
  IsUnderTop token = (step : Step) × ((steps : List Step) × (token ≡ token_under top (step ∷ steps)))

  -- it does, or is the top
  abbrev pub IsInTop : TokenName → Type 0
  IsInTop token = (steps : List Step) × (token ≡ token_under top steps)

  -- what keeps clear of the top: no part of a token under it, no local of one in it
  abbrev pub IsClear : VarName → Type 0
  IsClear (names.Global number) = Unit {0}
  IsClear (names.Token token part) = IsUnderTop token → ⊥
  IsClear (names.Local token rule number) = IsInTop token → ⊥

  -- ---- tests

  abbrev pub keeps_token : TokenName → Bool
  keeps_token token = not (has_first (steps_from top token))

  abbrev pub keeps_owner : TokenName → Bool
  keeps_owner token = not (has_some (steps_from top token))

  abbrev pub keeps_name : VarName → Bool
  keeps_name (names.Global number) = true
  keeps_name (names.Token token part) = keeps_token token
  keeps_name (names.Local token rule number) = keeps_owner token

  pub kept_token : (token : TokenName) → keeps_token token ≡ true → IsUnderTop token → ⊥
  kept_token token kept under =
      let found = ap (steps_from top) under.1.1 ∙ from_itself top (under.0 ∷ under.1.0) in
      absurd (true_false (sym kept ∙ ap (λ (s : Option (List Step)). not (has_first s)) found))

  pub kept_owner : (token : TokenName) → keeps_owner token ≡ true → IsInTop token → ⊥
  kept_owner token kept under =
      let found = ap (steps_from top) under.1 ∙ from_itself top under.0 in
      absurd (true_false (sym kept ∙ ap (λ (s : Option (List Step)). not (has_some s)) found))

  pub keeps_if : (token : TokenName) → (IsUnderTop token → ⊥) → keeps_token token ≡ true
  keeps_if token clear = by_found (steps_from top token) refl
    where
      by_found : (found : Option (List Step)) → steps_from top token ≡ found → not (has_first found) ≡ true
      by_found None e = refl
      by_found (Some []) e = refl
      by_found (Some (step ∷ steps)) e = absurd (clear (step, (steps, from_some top token (step ∷ steps) e)))

  pub keeps_owner_if : (token : TokenName) → (IsInTop token → ⊥) → keeps_owner token ≡ true
  keeps_owner_if token clear = by_found (steps_from top token) refl
    where
      by_found : (found : Option (List Step)) → steps_from top token ≡ found → not (has_some found) ≡ true
      by_found None e = refl
      by_found (Some steps) e = absurd (clear (steps, from_some top token steps e))

  pub dropped_token : (token : TokenName) → keeps_token token ≡ false → IsUnderTop token
  dropped_token token dropped = by_found (steps_from top token) refl dropped
    where
      by_found : (found : Option (List Step)) → steps_from top token ≡ found → not (has_first found) ≡ false → IsUnderTop token
      by_found None e dropped = absurd (true_false dropped)
      by_found (Some []) e dropped = absurd (true_false dropped)
      by_found (Some (step ∷ steps)) e dropped = (step, (steps, from_some top token (step ∷ steps) e))

  pub kept_name : (name : VarName) → keeps_name name ≡ true → IsClear name
  kept_name (names.Global number) kept = tt
  kept_name (names.Token token part) kept = kept_token token kept
  kept_name (names.Local token rule number) kept = kept_owner token kept

  pub keeps_name_if : (name : VarName) → IsClear name → keeps_name name ≡ true
  keeps_name_if (names.Global number) clear = refl
  keeps_name_if (names.Token token part) clear = keeps_if token clear
  keeps_name_if (names.Local token rule number) clear = keeps_owner_if token clear

  -- ---- roots and slots

  pub under_in : (token : TokenName) → IsUnderTop token → IsInTop token
  under_in token under = (under.0 ∷ under.1.0, under.1.1)

  -- a root isn't under the top
  pub root_clear : (token : TokenName) → token.steps ≡ [] → IsUnderTop token → ⊥
  root_clear token none under =
      let long = ap (λ (t : TokenName). length t.steps) under.1.1 in
      let empty = ap length none in
      omega (arith, long, empty, length-append top.steps (under.0 ∷ under.1.0))

  -- what a step leads to stands under the top only if its token is in it
  pub slot_clear : (token : TokenName) (step : Step) → (IsInTop token → ⊥) → IsUnderTop (step_token token step) → ⊥
  slot_clear token step clear under = elim (step_under top token step (under.0 ∷ under.1.0) under.1.1) [
    | inl is ↦
        let long = ap (λ (t : TokenName). length t.steps) (sym is ∙ under.1.1) in
        absurd (omega (arith, long, length-append top.steps (under.0 ∷ under.1.0)))
    | inr found ↦ clear found
  ]
