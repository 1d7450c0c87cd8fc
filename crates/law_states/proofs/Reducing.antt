-- What a list is reduced to: a list that is settled and collapses, and of which none can go.
use Rattle.std.proofs.Common.{◌≡◌, List, [], ◌∷◌, ◌++◌, inl, inr, refl, sym, ap, ◌∙◌, subst}
use Rattle.std.proofs.lemmas.List.{append-nil, append_assoc}
use Rattle.model_core.specs.declared.decision.Decision.{Decision}
use Rattle.model_core.specs.declared.model.Model.{Model}
use Rattle.plan_defs.specs.Closure.{IsCollapsed}
use Rattle.plan_defs.specs.Refusals.{IsAdmissible}
use Rattle.plan_defs.specs.Settling.{SettlesAfter, Settles, IsSettled, SettlesToCollapse, SettlesToLeast, ReducesTo, IsConflict}
use Rattle.plan_defs.proofs.Settling.{least_not_collapsed, IsSettled-push}
use Rattle.law_states.specs.Conflicts.{IsMinimal}
use Rattle.law_states.proofs.Splitting.{settles_same, settles_behind}
use Rattle.law_states.proofs.Leaving.{LeastAreAbove, LeastAreFounded, ArePartsOf, small_leaves}

-- ---- parts

-- a part is a part of itself
parts_small : (whole big small : List Decision) → ArePartsOf whole big small → ArePartsOf whole whole small
parts_small [] big small parts = (refl, parts.1)
parts_small (decision ∷ whole) big small (inl parts) =
    inl (whole, parts.1, refl, parts.3, parts_small whole parts.0 parts.1 parts.4)
parts_small (decision ∷ whole) big small (inr (inl parts)) = inr (inl (whole, refl, parts_small whole parts.0 small parts.2))
parts_small (decision ∷ whole) big small (inr (inr parts)) = inr (inl (whole, refl, parts_small whole big small parts))

-- parts of two lists one after the other
parts_both : (one other big big_behind small small_behind : List Decision) → ArePartsOf one big small → ArePartsOf other big_behind small_behind
    → ArePartsOf (one ++ other) (big ++ big_behind) (small ++ small_behind)
parts_both [] other big big_behind small small_behind first second =
    subst (λ (list : List Decision). ArePartsOf other (list ++ big_behind) (small ++ small_behind)) (sym first.0)
    (subst (λ (list : List Decision). ArePartsOf other big_behind (list ++ small_behind)) (sym first.1) second)
parts_both (decision ∷ one) other big big_behind small small_behind (inl first) second =
    inl (
      first.0 ++ big_behind,
      first.1 ++ small_behind,
      ap (λ (list : List Decision). list ++ big_behind) first.2,
      ap (λ (list : List Decision). list ++ small_behind) first.3,
      parts_both one other first.0 big_behind first.1 small_behind first.4 second,
    )
parts_both (decision ∷ one) other big big_behind small small_behind (inr (inl first)) second =
    inr (inl (first.0 ++ big_behind, ap (λ (list : List Decision). list ++ big_behind) first.1, parts_both one other first.0 big_behind small small_behind first.2 second))
parts_both (decision ∷ one) other big big_behind small small_behind (inr (inr first)) second =
    inr (inr (parts_both one other big big_behind small small_behind first second))

-- the next of the whole stays in the part, or goes
parts_stay : (before kept : List Decision) (decision : Decision) → ArePartsOf before kept kept → ArePartsOf (before ++ decision ∷ []) (kept ++ decision ∷ []) (kept ++ decision ∷ [])
parts_stay before kept decision parts =
    parts_both before (decision ∷ []) kept (decision ∷ []) kept (decision ∷ []) parts (inl ([], [], refl, refl, (refl, refl)))

parts_go : (before kept : List Decision) (decision : Decision) → ArePartsOf before kept kept → ArePartsOf (before ++ decision ∷ []) kept kept
parts_go before kept decision parts =
    let longer = parts_both before (decision ∷ []) kept [] kept [] parts (inr (inr (refl, refl))) in
    subst (λ (list : List Decision). ArePartsOf (before ++ decision ∷ []) list list) (append-nil kept) longer

-- ---- a list that is reduced

-- behind what is kept more stays, a part of the rest; all of it is settled and collapses, and without any one of what stays what is
-- left doesn't
record IsReduced (model : Model) (kept rest conflict : List Decision) : Type 0 where
  more : List Decision
  is : conflict ≡ kept ++ more
  part : ArePartsOf rest more more
  settled : IsSettled model conflict
  collapses : IsCollapsed model conflict
  needed : (front : List Decision) (decision : Decision) (back left : List Decision)
      → more ≡ front ++ decision ∷ back → Settles model (kept ++ (front ++ back)) left → IsCollapsed model left → ⊥

module _ (model : Model) (above : LeastAreAbove model) (founded : LeastAreFounded model) (whole : List Decision) (all_settled : IsSettled model whole) where
  -- without a decision that stays the rest leaves something, so the decision is admissible
  admits : (kept rest : List Decision) (decision : Decision) → IsSettled model kept → SettlesToCollapse model (kept ++ decision ∷ rest)
      → SettlesToLeast model (kept ++ rest) → IsAdmissible model kept decision
  admits kept rest decision settled collapse least =
      elim (settles_behind model kept (decision ∷ rest) collapse.0 settled collapse.1) [
        | inl stays ↦ stays.0
        | inr goes ↦
            let same = settles_same model kept rest collapse.0 least.0 goes.1 (settles_behind model kept rest least.0 settled least.1) in
            absurd (least_not_collapsed model least.0 least.2.0 least.2.1 (subst (IsCollapsed model) same collapse.2))
      ]

  reduced : (before kept rest conflict : List Decision) → whole ≡ before ++ rest → ArePartsOf before kept kept → IsSettled model kept
      → SettlesToCollapse model (kept ++ rest) → ReducesTo model kept rest conflict → IsReduced model kept rest conflict
  reduced before kept [] conflict is parts settled collapse reduces =
      let same : conflict ≡ kept = settles_same model [] kept conflict kept reduces settled in
      let left : collapse.0 ≡ kept =
      settles_same model [] kept collapse.0 kept (subst (λ (list : List Decision). Settles model list collapse.0) (append-nil kept) collapse.1) settled in
      record {
        more = [];
        is = same ∙ sym (append-nil kept);
        part = (refl, refl);
        settled = subst (IsSettled model) (sym same) settled;
        collapses = subst (IsCollapsed model) (left ∙ sym same) collapse.2;
        needed = λ front decision back left_over none. absurd (no_item front decision back none);
      }
    where
      no_item : (front : List Decision) (decision : Decision) (back : List Decision) → [] ≡ front ++ decision ∷ back → ⊥
      no_item [] decision back none = let apart : ⊥ = cc in apart
      no_item (first ∷ front) decision back none = let apart : ⊥ = cc in apart
  reduced before kept (decision ∷ rest) conflict is parts settled collapse (inl goes) =
      let behind = reduced (before ++ decision ∷ []) kept rest conflict (is ∙ sym (append_assoc before (decision ∷ []) rest)) (parts_go before kept decision parts) settled goes.0 goes.1 in
      record {
        more = behind.more;
        is = behind.is;
        part = inr (inr behind.part);
        settled = behind.settled;
        collapses = behind.collapses;
        needed = behind.needed;
      }
  reduced before kept (decision ∷ rest) conflict is parts settled collapse (inr stays) =
      let admissible = admits kept rest decision settled collapse stays.0 in
      let behind = reduced (before ++ decision ∷ []) (kept ++ decision ∷ []) rest conflict (is ∙ sym (append_assoc before (decision ∷ []) rest))
      (parts_stay before kept decision parts) (IsSettled-push model kept decision settled admissible)
      (subst (SettlesToCollapse model) (sym (append_assoc kept (decision ∷ []) rest)) collapse) stays.1 in
      record {
        more = decision ∷ behind.more;
        is = behind.is ∙ append_assoc kept (decision ∷ []) behind.more;
        part = inl (behind.more, behind.more, refl, refl, behind.part);
        settled = behind.settled;
        collapses = behind.collapses;
        needed = needed behind;
      }
    where
      needed : (behind : IsReduced model (kept ++ decision ∷ []) rest conflict) (front : List Decision) (each : Decision) (back left : List Decision)
          → decision ∷ behind.more ≡ front ++ each ∷ back → Settles model (kept ++ (front ++ back)) left → IsCollapsed model left → ⊥
      needed behind [] each back left same settles collapsed =
          let same_more : behind.more ≡ back = cc in
          let small : SettlesAfter model [] (kept ++ behind.more) left = subst (λ (list : List Decision). Settles model (kept ++ list) left) (sym same_more) settles in
          let are : ArePartsOf whole (kept ++ rest) (kept ++ behind.more) =
          subst (λ (list : List Decision). ArePartsOf list (kept ++ rest) (kept ++ behind.more)) (sym is)
          (parts_both before (decision ∷ rest) kept rest kept behind.more parts (inr (inr (parts_small rest behind.more behind.more behind.part)))) in
          collapsed stays.0.2.0 (small_leaves model above founded whole (kept ++ rest) (kept ++ behind.more) stays.0.0 left stays.0.2.0 all_settled are stays.0.1 small stays.0.2.1)
      needed behind (first ∷ front) each back left same settles collapsed =
          let same_first : decision ≡ first = cc in
          let same_more : behind.more ≡ front ++ each ∷ back = cc in
          let there : Settles model (kept ++ (decision ∷ (front ++ back))) left =
          subst (λ (d : Decision). Settles model (kept ++ (d ∷ (front ++ back))) left) (sym same_first) settles in
          behind.needed front each back left same_more
          (subst (λ (list : List Decision). Settles model list left) (sym (append_assoc kept (decision ∷ []) (front ++ back))) there) collapsed

  -- the conflict of a settled list that collapses
  pub conflict_minimal : (conflict : List Decision) → IsCollapsed model whole → IsConflict model whole conflict → IsMinimal model conflict
  conflict_minimal conflict collapsed is =
      let all = reduced [] [] whole conflict refl (refl, refl) refl (whole, all_settled, collapsed) is in
      record {
        settled = all.settled;
        collapses = all.collapses;
        needed = λ front decision back left parts settles. all.needed front decision back left (sym all.is ∙ parts) settles;
      }
