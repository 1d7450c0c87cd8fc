-- Taking decisions out from the last place on.
use Rattle.std.proofs.Common.{◌≡◌, ℕ, cond, ◌+◌, ◌<◌, ◌≤◌, Bool, true, false, not, take, drop, List, [], ◌∷◌, ◌++◌, length, count_by, insert, remove, refl, sym, ap, ◌∙◌, subst, append_assoc, append-nil, length-append, slice_index_or, arith}
use Rattle.std.proofs.lemmas.List.{length-take, drop_all, take_all}
use Rattle.std.proofs.lemmas.List.Sums.{sum_by-cons, sum_by-take-drop}
use Rattle.model_core.specs.declared.decision.Decision.{Decision}
use Rattle.decision_log.specs.declared.steps.TakenOut.{TakenOut}
use Rattle.decision_log.specs.Kept.{put_back, HavePlaces}
use Rattle.decision_log.specs.Taking.{kept_of}
use Rattle.decision_log.proofs.Places.{IsCut, cut_at, AreFrom, from_lower, from_with, places_with, put_back-last, insert-middle, remove-middle, index-middle}

-- what stands and what was taken out, once the places from this one on are dealt with
pub record IsTaking (keep : List Bool) (old : List Decision) (place : ℕ) (decisions : List Decision) (taken : List TakenOut) : Type 0 where
  pub low : place ≤ length keep
  pub left : decisions ≡ take place old ++ kept_of (drop place keep) (drop place old)
  pub back : put_back taken decisions ≡ old
  pub places : HavePlaces taken decisions
  pub from : AreFrom place taken
  pub count : length taken ≡ count_by not (drop place keep)

-- at first nothing is
pub taking_none : (keep : List Bool) (old : List Decision) → length keep ≡ length old → IsTaking keep old (length keep) old []
taking_none keep old same =
    let none : drop (length keep) keep ≡ [] = drop_all (length keep) keep (omega arith) in
    let all : take (length keep) old ≡ old = take_all (length keep) old (omega arith) in
    record {
      low = omega arith;
      left = sym ((λ i. all i ++ kept_of (none i) (drop (length keep) old)) ∙ append-nil old);
      back = refl;
      places = tt;
      from = tt;
      count = ap (λ flags. count_by not flags) (sym none);
    }

-- the lists from a place on begin with what stands there
both_cut : (keep : List Bool) (old : List Decision) (place : ℕ) (cut : IsCut keep place) (cut_old : IsCut old place)
    → kept_of (drop place keep) (drop place old) ≡ kept_of (cut.here ∷ drop (place + 1) keep) (cut_old.here ∷ drop (place + 1) old)
both_cut keep old place cut cut_old = λ i. kept_of (cut.back i) (cut_old.back i)

-- a decision with a flag stays
pub taking_kept : (keep : List Bool) (old : List Decision) (place : ℕ) (decisions : List Decision) (taken : List TakenOut)
    → length keep ≡ length old → (cut : IsCut keep place) → cut.here ≡ true → place < length keep
    → IsTaking keep old (place + 1) decisions taken → IsTaking keep old place decisions taken
taking_kept keep old place decisions taken same cut kept below is =
    let cut_old = cut_at old place (omega arith) in
    let rest = kept_of (drop (place + 1) keep) (drop (place + 1) old) in
    let here : kept_of (drop place keep) (drop place old) ≡ cut_old.here ∷ rest =
    both_cut keep old place cut cut_old ∙ ap (λ flag. kept_of (flag ∷ drop (place + 1) keep) (cut_old.here ∷ drop (place + 1) old)) kept in
    record {
      low = omega arith;
      left = is.left ∙ ap (λ front. front ++ rest) cut_old.front ∙ append_assoc (take place old) (cut_old.here ∷ []) rest
          ∙ ap (λ back. take place old ++ back) (sym here);
      back = is.back;
      places = is.places;
      from = from_lower place (place + 1) taken (omega arith) is.from;
      count = is.count ∙ sym (ap (λ flags. count_by not flags) cut.back ∙ ap (λ flag. count_by not (flag ∷ drop (place + 1) keep)) kept);
    }

-- a decision without one is taken out
pub taking_out : (keep : List Bool) (old : List Decision) (place : ℕ) (decisions : List Decision) (taken : List TakenOut) (decision : Decision)
    → length keep ≡ length old → (cut : IsCut keep place) → cut.here ≡ false → place < length keep
    → slice_index_or decisions place decision ≡ decision
    → IsTaking keep old (place + 1) decisions taken → IsTaking keep old place (remove decisions place) (taken ++ record { place = place; decision = decision } ∷ [])
taking_out keep old place decisions taken decision same cut dropped below stood is =
    let cut_old = cut_at old place (omega arith) in
    let front = take place old in
    let rest = kept_of (drop (place + 1) keep) (drop (place + 1) old) in
    let long : length front ≡ place = length-take place old ∙ omega arith in
    let whole : decisions ≡ front ++ cut_old.here ∷ rest =
    is.left ∙ ap (λ list. list ++ rest) cut_old.front ∙ append_assoc front (cut_old.here ∷ []) rest in
    let left : remove decisions place ≡ front ++ rest =
    (λ i. remove (whole i) (sym long i)) ∙ remove-middle front rest cut_old.here in
    let here : kept_of (drop place keep) (drop place old) ≡ rest =
    both_cut keep old place cut cut_old ∙ ap (λ flag. kept_of (flag ∷ drop (place + 1) keep) (cut_old.here ∷ drop (place + 1) old)) dropped in
    let same_one : decision ≡ cut_old.here =
    sym stood ∙ (λ i. slice_index_or (whole i) (sym long i) decision) ∙ index-middle front rest cut_old.here decision in
    let again : insert (remove decisions place) place decision ≡ decisions =
    (λ i. insert (left i) (sym long i) (same_one i)) ∙ insert-middle front rest cut_old.here ∙ sym whole in
    let out : TakenOut = record { place = place; decision = decision } in
    let one : count_by not (false ∷ drop (place + 1) keep) ≡ 1 + count_by not (drop (place + 1) keep) = sum_by-cons _ false (drop (place + 1) keep) in
    record {
      low = omega arith;
      left = left ∙ ap (λ back. front ++ back) (sym here);
      back = put_back-last taken out (remove decisions place) ∙ ap (put_back taken) again ∙ is.back;
      places = places_with taken out (remove decisions place)
          (omega (arith, ap length left, length-append front rest))
          is.from
          (subst (HavePlaces taken) (sym again) is.places);
      from = from_with place taken out (from_lower place (place + 1) taken (omega arith) is.from) (omega arith);
      count = length-append taken (out ∷ []) ∙ ap (λ n. n + 1) is.count
          ∙ sym (ap (λ flags. count_by not flags) cut.back ∙ ap (λ flag. count_by not (flag ∷ drop (place + 1) keep)) dropped ∙ one ∙ omega arith);
    }

-- where one is left out, fewer are left out behind it than in all
pub less_left : (keep : List Bool) (place : ℕ) (cut : IsCut keep place) → cut.here ≡ false
    → count_by not (drop (place + 1) keep) + 1 ≤ count_by not keep
less_left keep place cut dropped =
    let here : count_by not (drop place keep) ≡ 1 + count_by not (drop (place + 1) keep) =
    ap (λ flags. count_by not flags) cut.back ∙ ap (λ flag. count_by not (flag ∷ drop (place + 1) keep)) dropped ∙ sum_by-cons _ false (drop (place + 1) keep) in
    omega (arith, here, sum_by-take-drop (λ flag. cond (not flag) 1 0) keep place)
