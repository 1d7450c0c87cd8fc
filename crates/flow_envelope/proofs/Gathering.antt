-- Lists that are gathered one by one: pins, and points without a value.
use Rattle.std.proofs.Common.{◌≡◌, ℕ, ◌+◌, ◌<◌, ℤ, ⊎_elim, List, [], ◌∷◌, ◌++◌, length, Option, None, subst, arith}
use Rattle.std.specs.Prelude.{Contains}
use Rattle.std.proofs.lemmas.Bool.{cases_lt}
use Rattle.std.proofs.lemmas.List.Elements.{Contains-append_left, Contains-push, Contains-push_cases}
use Rattle.flow_envelope.specs.declared.change.PointChange.{PointChange}
use Rattle.flow_envelope.specs.declared.certain.Certainty.{Certainty}
use Rattle.flow_envelope.specs.declared.labels.Label.{Label}
use Rattle.flow_envelope.specs.Sums.{change_at}
use Rattle.flow_envelope.specs.Latest.{bound_at, AreFree}
use Rattle.flow_envelope.specs.Finish.{IsPinned, ArePins}

module _ (changes : List PointChange) (certain : List Certainty) (adders : List Label) (place : ℕ) (pins : List ℕ) (are : ArePins changes certain adders place pins) where
  pub pins_more : IsPinned changes certain adders place → ArePins changes certain adders (place + 1) (pins ++ (change_at changes place).point ∷ [])
  pins_more pinned = record {
    each = λ point there.
        ⊎_elim
        (λ before. are.each point before)
        (λ same. (place, pinned, same))
        (Contains-push_cases pins (change_at changes place).point point there);
    all = λ k below is.
        ⊎_elim
        (λ before. Contains-append_left pins ((change_at changes place).point ∷ []) (change_at changes k).point (are.all k before is))
        (λ past.
        let here : place ≡ k = omega (arith, below, past) in
        subst (λ j. Contains (pins ++ (change_at changes place).point ∷ []) (change_at changes j).point) here (Contains-push pins (change_at changes place).point))
        (cases_lt k place);
  }

  pub pins_passed : (IsPinned changes certain adders place → ⊥) → ArePins changes certain adders (place + 1) pins
  pins_passed none = record {
    each = are.each;
    all = λ k below is.
        ⊎_elim
        (λ before. are.all k before is)
        (λ past.
        let here : k ≡ place = omega (arith, below, past) in
        absurd (none (subst (IsPinned changes certain adders) here is)))
        (cases_lt k place);
  }

module _ (bounds : List (Option ℤ)) (point : ℕ) (free : List ℕ) (are : AreFree bounds point free) where
  pub free_more : point < length bounds → bound_at bounds point ≡ None → AreFree bounds (point + 1) (free ++ point ∷ [])
  free_more within none = record {
    each = λ k there.
        ⊎_elim
        (λ before. are.each k before)
        (λ same. (subst (λ j. j < length bounds) same within, subst (λ j. bound_at bounds j ≡ None) same none))
        (Contains-push_cases free point k there);
    all = λ k below is.
        ⊎_elim
        (λ before. Contains-append_left free (point ∷ []) k (are.all k before is))
        (λ past.
        let here : point ≡ k = omega (arith, below, past) in
        subst (Contains (free ++ point ∷ [])) here (Contains-push free point))
        (cases_lt k point);
  }

  pub free_passed : (bound_at bounds point ≡ None → ⊥) → AreFree bounds (point + 1) free
  free_passed some = record {
    each = are.each;
    all = λ k below is.
        ⊎_elim
        (λ before. are.all k before is)
        (λ past.
        let here : k ≡ point = omega (arith, below, past) in
        absurd (some (subst (λ j. bound_at bounds j ≡ None) here is)))
        (cases_lt k point);
  }
