-- Consistency of two and of three domains, place by place.
use Rattle.std.proofs.Common.{◌≡◌, ℤ, List, [], ◌∷◌, length, sym, ap, subst, arith}
use Rattle.std.proofs.lemmas.List.{length-append}
use Rattle.domain_core.specs.Domain.{Domain, IsTested}
use Rattle.domain_core.specs.Consistency.{Reach, IsSupported, AreConsistent}

-- the place is the one that is known of
at_place : (reach : Reach) (holds : List ℤ → Type 0) (before known_before : List Domain) (domain known : Domain) (after known_after : List Domain) (value : ℤ)
    → known_before ≡ before → known ≡ domain → known_after ≡ after
    → ((v : ℤ) → IsTested known v → IsSupported reach holds known_before v known_after) → IsTested domain value → IsSupported reach holds before value after
at_place reach holds before known_before domain known after known_after value befores domains afters supported tested =
    subst (λ list. IsSupported reach holds list value after) befores
    (subst (λ list. IsSupported reach holds known_before value list) afters
    (supported value (subst (λ d. IsTested d value) (sym domains) tested)))

module _ (reach : Reach) (holds : List ℤ → Type 0) (a b : Domain) where
  pub two_consistent : ((v : ℤ) → IsTested a v → IsSupported reach holds [] v (b ∷ [])) → ((v : ℤ) → IsTested b v → IsSupported reach holds (a ∷ []) v [])
      → AreConsistent reach holds (a ∷ b ∷ [])
  two_consistent first second [] domain after value e tested = at_place reach holds [] [] domain a after (b ∷ []) value (cc) (cc) (cc) first tested
  two_consistent first second (x ∷ []) domain after value e tested = at_place reach holds (x ∷ []) (a ∷ []) domain b after [] value (cc) (cc) (cc) second tested
  two_consistent first second (x ∷ y ∷ before) domain after value e tested = absurd (omega (arith, ap length e, length-append before (domain ∷ after)))

module _ (reach : Reach) (holds : List ℤ → Type 0) (a b c : Domain) where
  pub three_consistent : ((v : ℤ) → IsTested a v → IsSupported reach holds [] v (b ∷ c ∷ [])) → ((v : ℤ) → IsTested b v → IsSupported reach holds (a ∷ []) v (c ∷ []))
      → ((v : ℤ) → IsTested c v → IsSupported reach holds (a ∷ b ∷ []) v []) → AreConsistent reach holds (a ∷ b ∷ c ∷ [])
  three_consistent first second third [] domain after value e tested = at_place reach holds [] [] domain a after (b ∷ c ∷ []) value (cc) (cc) (cc) first tested
  three_consistent first second third (x ∷ []) domain after value e tested = at_place reach holds (x ∷ []) (a ∷ []) domain b after (c ∷ []) value (cc) (cc) (cc) second tested
  three_consistent first second third (x ∷ y ∷ []) domain after value e tested = at_place reach holds (x ∷ y ∷ []) (a ∷ b ∷ []) domain c after [] value (cc) (cc) (cc) third tested
  three_consistent first second third (x ∷ y ∷ z ∷ before) domain after value e tested = absurd (omega (arith, ap length e, length-append before (domain ∷ after)))
