-- A product by a factor, and the constraint of three arguments whose second one is the factor alone.
use Rattle.std.proofs.Common.{◌≡◌, ℤ, ◌*ℤ◌, List, [], ◌∷◌, ◌++◌, refl, sym, subst}
use Rattle.domain_core.specs.Domain.{Domain, IsDomain, IsSingle, IsTested, IsBetweenEnds, least}
use Rattle.domain_core.specs.Consistency.{Reach, Ends, IsSupported, AreConsistent}
use Rattle.domain_core.specs.Constraints.{HoldsOf}
use Rattle.domain_core.specs.declared.kind.Kind.TheVariants.{MulEq}
use Rattle.domain_core.proofs.Words.{has_tested, tested_least, between_ends}
use Rattle.narrow_core.specs.Meanings.{IsProduct}
use Rattle.narrow_core.specs.Products.{IsLikeThree}
use Rattle.narrow_core.proofs.Below.{admitted_single}
use Rattle.narrow_core.proofs.Supports.{first_of_two, second_of_two, first_of_three, third_of_three}
use Rattle.narrow_core.proofs.Sweeping.{no_split}

-- ---- consistency of two and of three domains, place by place

module _ (reach : Reach) (holds : List ℤ → Type 0) where
  two_consistent : (x z : Domain) → ((value : ℤ) → IsTested x value → IsSupported reach holds [] value (z ∷ [])) → ((value : ℤ) → IsTested z value → IsSupported reach holds (x ∷ []) value [])
      → AreConsistent reach holds (x ∷ z ∷ [])
  two_consistent x z first second [] domain after value split tested =
      let at : x ≡ domain = cc in
      let behind : z ∷ [] ≡ after = cc in
      subst (λ list. IsSupported reach holds [] value list) behind (first value (subst (λ d. IsTested d value) (sym at) tested))
  two_consistent x z first second (b ∷ []) domain after value split tested =
      let front : x ≡ b = cc in
      let at : z ≡ domain = cc in
      let behind : [] ≡ after = cc in
      subst (λ d. IsSupported reach holds (d ∷ []) value after) front (subst (λ list. IsSupported reach holds (x ∷ []) value list) behind (second value (subst (λ d. IsTested d value) (sym at) tested)))
  two_consistent x z first second (b ∷ c ∷ before) domain after value split tested =
      let none : [] ≡ before ++ domain ∷ after = cc in
      absurd (no_split reach holds before domain after none)

  three_consistent : (x y z : Domain) → ((value : ℤ) → IsTested x value → IsSupported reach holds [] value (y ∷ z ∷ [])) → ((value : ℤ) → IsTested y value → IsSupported reach holds (x ∷ []) value (z ∷ []))
      → ((value : ℤ) → IsTested z value → IsSupported reach holds (x ∷ y ∷ []) value []) → AreConsistent reach holds (x ∷ y ∷ z ∷ [])
  three_consistent x y z first second third [] domain after value split tested =
      let at : x ≡ domain = cc in
      let behind : y ∷ z ∷ [] ≡ after = cc in
      subst (λ list. IsSupported reach holds [] value list) behind (first value (subst (λ d. IsTested d value) (sym at) tested))
  three_consistent x y z first second third (b ∷ before) domain after value split tested =
      let front : x ≡ b = cc in
      let rest : y ∷ z ∷ [] ≡ before ++ domain ∷ after = cc in
      subst (λ d. IsSupported reach holds (d ∷ before) value after) front (later before domain after value rest tested)
    where
      later : (before : List Domain) (domain : Domain) (after : List Domain) (value : ℤ) → y ∷ z ∷ [] ≡ before ++ domain ∷ after → IsTested domain value → IsSupported reach holds (x ∷ before) value after
      later [] domain after value split tested =
          let at : y ≡ domain = cc in
          let behind : z ∷ [] ≡ after = cc in
          subst (λ list. IsSupported reach holds (x ∷ []) value list) behind (second value (subst (λ d. IsTested d value) (sym at) tested))
      later (b ∷ []) domain after value split tested =
          let front : y ≡ b = cc in
          let at : z ≡ domain = cc in
          let behind : [] ≡ after = cc in
          subst (λ d. IsSupported reach holds (x ∷ d ∷ []) value after) front (subst (λ list. IsSupported reach holds (x ∷ y ∷ []) value list) behind (third value (subst (λ d. IsTested d value) (sym at) tested)))
      later (b ∷ c ∷ before) domain after value split tested =
          let none : [] ≡ before ++ domain ∷ after = cc in
          absurd (no_split reach holds before domain after none)

-- ---- the law

module _ (factor : ℤ) (x middle z : Domain) (ok : IsDomain x) (middle_ok : IsDomain middle) (single : IsSingle middle factor) where
  -- what lies between the ends of the second argument is the factor
  is_factor : (w : ℤ) → IsBetweenEnds middle w → w ≡ factor
  is_factor w between = admitted_single Ends middle factor w middle_ok single between

  factor_between : IsBetweenEnds middle factor
  factor_between = between_ends middle factor middle_ok single.has

  two_of_three : AreConsistent Ends (HoldsOf MulEq) (x ∷ middle ∷ z ∷ []) → AreConsistent Ends (IsProduct factor) (x ∷ z ∷ [])
  two_of_three consistent =
      two_consistent Ends (IsProduct factor) x z
      (λ value tested.
      let some = first_of_three Ends (HoldsOf MulEq) middle z value (consistent [] x (middle ∷ z ∷ []) value refl tested) in
      ([], some.1 ∷ [], tt, (some.3, tt), subst (λ w. (value *ℤ w) ≡ some.1) (is_factor some.0 some.2) some.4))
      (λ value tested.
      let some = third_of_three Ends (HoldsOf MulEq) x middle value (consistent (x ∷ middle ∷ []) z [] value refl tested) in
      (some.0 ∷ [], [], (some.2, tt), tt, subst (λ w. (some.0 *ℤ w) ≡ value) (is_factor some.1 some.3) some.4))

  three_of_two : AreConsistent Ends (IsProduct factor) (x ∷ z ∷ []) → AreConsistent Ends (HoldsOf MulEq) (x ∷ middle ∷ z ∷ [])
  three_of_two consistent =
      let first = λ (value : ℤ) (tested : IsTested x value). first_of_two Ends (IsProduct factor) z value (consistent [] x (z ∷ []) value refl tested) in
      three_consistent Ends (HoldsOf MulEq) x middle z
      (λ value tested. let some = first value tested in ([], factor ∷ some.0 ∷ [], tt, (factor_between, (some.1, tt)), some.2))
      (λ value tested.
      let some = first (least x) (tested_least x ok) in
      let same = single.only value (has_tested middle value middle_ok tested) in
      (least x ∷ [], some.0 ∷ [], (between_ends x (least x) ok (has_tested x (least x) ok (tested_least x ok)), tt), (some.1, tt), subst (λ w. (least x *ℤ w) ≡ some.0) (sym same) some.2))
      (λ value tested.
      let some = second_of_two Ends (IsProduct factor) x value (consistent (x ∷ []) z [] value refl tested) in
      (some.0 ∷ factor ∷ [], [], (some.1, (factor_between, tt)), tt, some.2))

pub like_three : (factor : ℤ) → IsLikeThree factor
like_three factor x middle z ok middle_ok z_ok single = (two_of_three factor x middle z ok middle_ok single, three_of_two factor x middle z ok middle_ok single)
