-- What relations say is of one part each of their two tokens.
use Rattle.std.proofs.Common.{◌≡◌, [], ◌∷◌, ◌⊎◌, inl, inr, refl, subst}
use Rattle.std.specs.Prelude.{Contains}
use Rattle.eu_name.specs.declared.name.Part.{Part}
use Rattle.eu_name.specs.declared.name.TokenName.{TokenName}
use Rattle.model_core.specs.declared.item.Rel.{Rel}
use Rattle.model_core.specs.declared.item.Rel.TheVariants as rel
use Rattle.plan_defs.specs.Claims.{Claim, relates, part_of}
use Rattle.eu_name.proofs.Ordered.{contains_cases, contains_none}

-- it is of one part each of these two tokens
pub record IsOfTwo (a b : TokenName) (claim : Claim) : Type 0 where
  pub one : Part
  pub other : Part
  pub are : (claim.arguments ≡ part_of a one ∷ part_of b other ∷ []) ⊎ (claim.arguments ≡ part_of b other ∷ part_of a one ∷ [])

one_claim : (a b : TokenName) (first claim : Claim) → IsOfTwo a b first → Contains (first ∷ []) claim → IsOfTwo a b claim
one_claim a b first claim is there = elim (contains_cases first claim [] there) [
  | inl same ↦ subst (λ c. IsOfTwo a b c) same is
  | inr none ↦ absurd (contains_none claim none)
]

two_claims : (a b : TokenName) (first second claim : Claim) → IsOfTwo a b first → IsOfTwo a b second → Contains (first ∷ second ∷ []) claim → IsOfTwo a b claim
two_claims a b first second claim is is' there = elim (contains_cases first claim (second ∷ []) there) [
  | inl same ↦ subst (λ c. IsOfTwo a b c) same is
  | inr later ↦ one_claim a b second claim is' later
]

forth : (a b : TokenName) (p q : Part) (claim : Claim) → claim.arguments ≡ part_of a p ∷ part_of b q ∷ [] → IsOfTwo a b claim
forth a b p q claim same = record { one = p; other = q; are = inl same }

back : (a b : TokenName) (p q : Part) (claim : Claim) → claim.arguments ≡ part_of b q ∷ part_of a p ∷ [] → IsOfTwo a b claim
back a b p q claim same = record { one = p; other = q; are = inr same }

pub of_two : (relation : Rel) (a b : TokenName) (claim : Claim) → Contains (relates relation a b) claim → IsOfTwo a b claim
of_two rel.Any a b claim there = absurd (contains_none claim there)
of_two rel.Before a b claim there = one_claim a b _ claim (forth a b _ _ _ refl) there
of_two rel.After a b claim there = one_claim a b _ claim (back a b _ _ _ refl) there
of_two rel.Meets a b claim there = one_claim a b _ claim (forth a b _ _ _ refl) there
of_two rel.MetBy a b claim there = one_claim a b _ claim (back a b _ _ _ refl) there
of_two rel.Equals a b claim there = two_claims a b _ _ claim (forth a b _ _ _ refl) (forth a b _ _ _ refl) there
of_two rel.Contains a b claim there = two_claims a b _ _ claim (forth a b _ _ _ refl) (back a b _ _ _ refl) there
of_two rel.ContainedBy a b claim there = two_claims a b _ _ claim (back a b _ _ _ refl) (forth a b _ _ _ refl) there
of_two rel.Starts a b claim there = one_claim a b _ claim (forth a b _ _ _ refl) there
of_two rel.Ends a b claim there = one_claim a b _ claim (forth a b _ _ _ refl) there
of_two rel.Parallels a b claim there = two_claims a b _ _ claim (forth a b _ _ _ refl) (forth a b _ _ _ refl) there
of_two rel.ParalleledBy a b claim there = two_claims a b _ _ claim (back a b _ _ _ refl) (back a b _ _ _ refl) there
of_two rel.StartsDuring a b claim there = two_claims a b _ _ claim (back a b _ _ _ refl) (forth a b _ _ _ refl) there
of_two rel.ContainsStart a b claim there = two_claims a b _ _ claim (forth a b _ _ _ refl) (back a b _ _ _ refl) there
of_two rel.EndsDuring a b claim there = two_claims a b _ _ claim (back a b _ _ _ refl) (forth a b _ _ _ refl) there
of_two rel.ContainsEnd a b claim there = two_claims a b _ _ claim (forth a b _ _ _ refl) (back a b _ _ _ refl) there
