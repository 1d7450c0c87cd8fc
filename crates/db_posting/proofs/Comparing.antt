-- Comparisons that are posted one after another.
use Rattle.std.proofs.Common.{◌≡◌, ℕ, zero, suc, ◌+◌, ◌<◌, ◌⊎◌, inl, inr, List, [], ◌∷◌, ◌++◌, length, take, get_or, sym, ap, ◌∙◌, subst, arith}
use Rattle.std.specs.Prelude.{Contains}
use Rattle.std.proofs.lemmas.List.{take_more, map_push}
use Rattle.std.proofs.lemmas.List.Elements.{Contains-append_left, Contains-append_right, Contains-append_cases}
use Rattle.eu_name.specs.declared.name.TokenName.{TokenName}
use Rattle.eu_name.specs.declared.name.VarName.{VarName}
use Rattle.constraint_net.specs.declared.constraint.Constraint.{Constraint}
use Rattle.plan_defs.specs.Claims.{Claim}
use Rattle.db_posting.specs.declared.relations.Comparison.{Comparison}
use Rattle.db_posting.specs.Posted.{PostsClaims, compares, comparisons_claim}
use Rattle.db_posting.proofs.Said.{posts_both, posts_same}

one_there : (claim other : Claim) → Contains (claim ∷ []) other → other ≡ claim
one_there claim other there = last there.0 there.1 there.2
  where
    last : (k : ℕ) → k < 1 → get_or (claim ∷ []) k other ≡ other → other ≡ claim
    last zero below is = sym is
    last (suc k) below is = absurd (omega arith)

either_is_there : (claims : List Claim) (claim other : Claim) → Contains claims other ⊎ (other ≡ claim) → Contains (claims ++ claim ∷ []) other
either_is_there claims claim other (inl there) = Contains-append_left claims (claim ∷ []) other there
either_is_there claims claim other (inr same) = Contains-append_right claims (claim ∷ []) other (0, omega arith, sym same)

there_is_either : (claims : List Claim) (claim other : Claim) → Contains (claims ++ claim ∷ []) other → Contains claims other ⊎ (other ≡ claim)
there_is_either claims claim other there = elim (Contains-append_cases claims (claim ∷ []) other there) [
  | inl before ↦ inl before
  | inr last ↦ inr (one_there claim other last)
]

module _ (names : List VarName) (one other : TokenName) (comparisons : List Comparison) where
  pub comparisons_more : (old middle new : List Constraint) (count : ℕ) (comparison : Comparison) → count < length comparisons
      → PostsClaims names (Contains (comparisons_claim one other (take count comparisons))) old middle
      → PostsClaims names (λ claim. claim ≡ compares one other (get_or comparisons count comparison)) middle new
      → PostsClaims names (Contains (comparisons_claim one other (take (count + 1) comparisons))) old new
  comparisons_more old middle new count comparison below first last =
      let before = comparisons_claim one other (take count comparisons) in
      let next = compares one other (get_or comparisons count comparison) in
      let all : comparisons_claim one other (take (count + 1) comparisons) ≡ before ++ next ∷ [] =
      ap (comparisons_claim one other) (take_more comparisons count comparison below) ∙ map_push (compares one other) (take count comparisons) (get_or comparisons count comparison) in
      subst (λ claims. PostsClaims names (Contains claims) old new) (sym all)
      (posts_same names (λ claim. Contains before claim ⊎ (claim ≡ next)) (Contains (before ++ next ∷ [])) old new
      (either_is_there before next) (there_is_either before next)
      (posts_both names (Contains before) (λ claim. claim ≡ next) old middle new first last))
