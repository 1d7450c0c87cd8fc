-- What is certain by the bounds, and the pairs that are told by those of one more edge.
use Rattle.std.proofs.Common.{◌≡◌, ℕ, ◌+◌, ◌<◌, ◌≤◌, ℤ, pos, ◌+ℤ◌, ◌≤ℤ◌, ◌<ℤ◌, ◌⊎◌, inl, inr, ⊎_elim, List, [], ◌∷◌, ◌++◌, length, get_or, Option, Some, None, MatchOption, refl, sym, ap, ◌∙◌, subst, arith}
use Rattle.std.specs.Prelude.{All}
use Rattle.std.proofs.lemmas.Int.{ints}
use Rattle.std.proofs.lemmas.List.{length_push, get_or_append_left, get_or_push}
use Rattle.std.proofs.lemmas.Bool.{cases_lt, cases_eq}
use Rattle.std.proofs.lemmas.List.Elements.{All-get_or}
use Rattle.eu_name.proofs.Ordered.{contains_head, contains_cases, contains_none}
use Rattle.temporal_core.specs.declared.edges.Edge.{Edge}
use Rattle.temporal_core.specs.Schedule.{IsSchedule, IsLeastValue, IsGreatestValue, AreGreatestValues}
use Rattle.flow_envelope.specs.declared.change.PointChange.{PointChange}
use Rattle.flow_envelope.specs.declared.change.Amount.{Amount}
use Rattle.flow_envelope.specs.declared.certain.Certainty.{Certainty}
use Rattle.flow_envelope.specs.declared.certain.Certainty.TheVariants.{Sure, Maybe}
use Rattle.flow_envelope.specs.Sums.{change_at}
use Rattle.flow_envelope.specs.Times.{IsBy, MayBeBy, IsAfter, MayBeAfter, MayPart}
use Rattle.flow_envelope.specs.Peak.{IsChange}
use Rattle.flow_envelope.specs.Certain.{IsCertainty, certain_at, AreCertain}
use Rattle.flow_envelope.specs.Pairs.{pair_at, IsCandidate, IsPair, HasPair, ArePairs, IsAdder, IsTaker, IsFollower}
use Rattle.flow_envelope.specs.Pins.{early_edge, HasSchedule}
use Rattle.flow_envelope.proofs.Adding.{compared}
use Rattle.flow_envelope.proofs.Meeting.{precedes_from, fewer_edges, early_schedule, early_point}

-- ---- by the least and the greatest value of a point

pub sure_from : (edges : List Edge) (at : ℤ) (point : ℕ) (greatest : Option ℤ) → IsGreatestValue edges point greatest → MatchOption greatest ⊥ (λ number. number ≤ℤ at) → IsBy edges at point
sure_from edges at point None is by = absurd by
sure_from edges at point (Some number) is by = λ value schedule. let most = is.0 value schedule in omega (arith, ints, by)

pub may_be_after : (edges : List Edge) (at : ℤ) (point : ℕ) (greatest : Option ℤ) → IsGreatestValue edges point greatest → (MatchOption greatest ⊥ (λ number. number ≤ℤ at) → ⊥) → MayBeAfter edges at point
may_be_after edges at point None is not_by = let high = is (at +ℤ pos 1) in (high.0, high.1, let over = high.2 in omega (arith, ints))
may_be_after edges at point (Some number) is not_by =
    ⊎_elim
    (λ under. (is.1.0, is.1.1, let same = is.1.2 in let over = under.1 in omega (arith, ints)))
    (λ by. absurd (not_by by.1))
    (compared at number)

pub never_from : (edges : List Edge) (at : ℤ) (point : ℕ) (least : Option ℤ) → IsLeastValue edges point least → MatchOption least ⊥ (λ number. at <ℤ number) → IsAfter edges at point
never_from edges at point None is after = absurd after
never_from edges at point (Some number) is after = λ value schedule. let least = is.0 value schedule in omega (arith, ints, after)

pub may_be_by : (edges : List Edge) (at : ℤ) (point : ℕ) (least : Option ℤ) → IsLeastValue edges point least → (MatchOption least ⊥ (λ number. at <ℤ number) → ⊥) → MayBeBy edges at point
may_be_by edges at point None is not_after = is at
may_be_by edges at point (Some number) is not_after =
    ⊎_elim
    (λ after. absurd (not_after after.1))
    (λ by. (is.1.0, is.1.1, let same = is.1.2 in let under = by.1 in omega (arith, ints)))
    (compared at number)

-- one more of them
pub certain_push : (edges : List Edge) (changes : List PointChange) (at : ℤ) (certain : List Certainty) (one : Certainty) (index : ℕ) → length certain ≡ index
    → ((place : ℕ) → place < index → IsCertainty edges at (change_at changes place).point (certain_at certain place)) → IsCertainty edges at (change_at changes index).point one
    → (place : ℕ) → place < index + 1 → IsCertainty edges at (change_at changes place).point (certain_at (certain ++ one ∷ []) place)
certain_push edges changes at certain one index count each last place within =
    ⊎_elim
    (λ before. subst (IsCertainty edges at (change_at changes place).point) (sym (get_or_append_left certain (one ∷ []) Sure place (omega (arith, count, before)))) (each place before))
    (λ past.
    let here : index ≡ place = omega (arith, within, past) in
    subst (λ k. IsCertainty edges at (change_at changes k).point (certain_at (certain ++ one ∷ []) k)) here
    (subst (IsCertainty edges at (change_at changes index).point) (sym (get_or_push certain one Sure index count)) last))
    (cases_lt place index)

-- ---- by the greatest values with one more edge

one_early : (edges : List Edge) (at : ℤ) (one : ℕ) (value : ℕ → ℤ) → IsSchedule edges value → value one ≤ℤ at → IsSchedule (edges ++ early_edge at one ∷ []) value
one_early edges at one value schedule early = early_schedule edges at (one ∷ []) value schedule
    (λ point there. ⊎_elim (λ same. subst (λ p. value p ≤ℤ at) same early) (λ none. absurd (contains_none point none)) (contains_cases one point [] there))

pub follows_from : (edges : List Edge) (at : ℤ) (one other : ℕ) (greatest : Option ℤ) → IsGreatestValue (edges ++ early_edge at one ∷ []) other greatest → MatchOption greatest ⊥ (λ number. number ≤ℤ at)
    → (value : ℕ → ℤ) → IsSchedule edges value → value one ≤ℤ at → value other ≤ℤ at
follows_from edges at one other greatest is by value schedule early =
    sure_from (edges ++ early_edge at one ∷ []) at other greatest is by value (one_early edges at one value schedule early)

pub may_part : (edges : List Edge) (at : ℤ) (one other : ℕ) (greatest : Option ℤ) → IsGreatestValue (edges ++ early_edge at one ∷ []) other greatest → (MatchOption greatest ⊥ (λ number. number ≤ℤ at) → ⊥)
    → MayPart edges at one other
may_part edges at one other greatest is not_by =
    let after = may_be_after (edges ++ early_edge at one ∷ []) at other greatest is not_by in
    (after.0, fewer_edges edges (early_edge at one ∷ []) after.0 after.1, early_point edges at (one ∷ []) after.0 one after.1 (contains_head one []), after.2)

-- ---- pairs

-- no pairs yet, where nothing is dealt with
pub pairs_none : (edges : List Edge) (changes : List PointChange) (at : ℤ) (certain : List Certainty) → ArePairs edges changes at certain (λ one other. one < 0) []
pairs_none edges changes at certain = record {
  each = λ place h. absurd (omega arith);
  idle = λ place h. absurd (omega arith);
  told = λ adder taker is dealt. absurd (omega arith);
}

-- dealing with others in other words
pub pairs_weaker : (edges : List Edge) (changes : List PointChange) (at : ℤ) (certain : List Certainty) (dealt other : ℕ → ℕ → Type 0) (pairs : List Amount)
    → ((adder taker : ℕ) → IsCandidate changes certain adder taker → other adder taker → dealt adder taker) → ArePairs edges changes at certain dealt pairs → ArePairs edges changes at certain other pairs
pairs_weaker edges changes at certain dealt other pairs before are = record {
  each = are.each;
  idle = are.idle;
  told = λ adder taker is new. are.told adder taker is (before adder taker is new);
}

-- no pair is needed for what may part, or isn't a candidate
pub pairs_passed : (edges : List Edge) (changes : List PointChange) (at : ℤ) (certain : List Certainty) (dealt other : ℕ → ℕ → Type 0) (pairs : List Amount)
    → ((adder taker : ℕ) → IsCandidate changes certain adder taker → other adder taker
    → dealt adder taker ⊎ MayPart edges at (change_at changes adder).point (change_at changes taker).point)
    → ArePairs edges changes at certain dealt pairs → ArePairs edges changes at certain other pairs
pairs_passed edges changes at certain dealt other pairs before are = record {
  each = are.each;
  idle = are.idle;
  told = λ adder taker is new. ⊎_elim (λ old. are.told adder taker is old) (λ part. inr part) (before adder taker is new);
}

pair_kept : (pairs : List Amount) (pair : Amount) (place : ℕ) → place < length pairs → pair_at (pairs ++ pair ∷ []) place ≡ pair_at pairs place
pair_kept pairs pair place h = get_or_append_left pairs (pair ∷ []) (record { from = 0; to = 0; amount = pos 0 }) place h

pair_last : (pairs : List Amount) (pair : Amount) → pair_at (pairs ++ pair ∷ []) (length pairs) ≡ pair
pair_last pairs pair = get_or_push pairs pair (record { from = 0; to = 0; amount = pos 0 }) (length pairs) refl

-- one more pair
pub pairs_more : (edges : List Edge) (changes : List PointChange) (at : ℤ) (certain : List Certainty) (dealt other : ℕ → ℕ → Type 0) (pairs : List Amount) (pair : Amount)
    → IsPair edges changes certain pair → pair.amount ≡ pos 0
    → ((adder taker : ℕ) → IsCandidate changes certain adder taker → other adder taker → dealt adder taker ⊎ ((pair.from ≡ adder) × (pair.to ≡ taker)))
    → ArePairs edges changes at certain dealt pairs → ArePairs edges changes at certain other (pairs ++ pair ∷ [])
pairs_more edges changes at certain dealt other pairs pair is idle before are = record {
  each = λ place h. one_place (IsPair edges changes certain) place h are.each is;
  idle = λ place h. one_place (λ (p : Amount). p.amount ≡ pos 0) place h are.idle idle;
  told = λ adder taker candidate new.
      ⊎_elim
      (λ old. ⊎_elim (λ has. inl (has_still adder taker has)) (λ part. inr part) (are.told adder taker candidate old))
      (λ ends. inl (length pairs, omega (arith, length_push pairs pair), ap (λ (p : Amount). p.from) (pair_last pairs pair) ∙ ends.0, ap (λ (p : Amount). p.to) (pair_last pairs pair) ∙ ends.1))
      (before adder taker candidate new);
}
  where
    one_place : (P : Amount → Type 0) (place : ℕ) → place < length (pairs ++ pair ∷ []) → ((k : ℕ) → k < length pairs → P (pair_at pairs k)) → P pair → P (pair_at (pairs ++ pair ∷ []) place)
    one_place P place h all one =
        ⊎_elim
        (λ within. subst P (sym (pair_kept pairs pair place within)) (all place within))
        (λ past.
        let last : length pairs ≡ place = omega (arith, h, past, length_push pairs pair) in
        subst (λ k. P (pair_at (pairs ++ pair ∷ []) k)) last (subst P (sym (pair_last pairs pair)) one))
        (cases_lt place (length pairs))

    has_still : (adder taker : ℕ) → HasPair pairs adder taker → HasPair (pairs ++ pair ∷ []) adder taker
    has_still adder taker has = (has.0, omega (arith, has.1, length_push pairs pair), ap (λ (p : Amount). p.from) (pair_kept pairs pair has.0 has.1) ∙ has.2, ap (λ (p : Amount). p.to) (pair_kept pairs pair has.0 has.1) ∙ has.3)

-- an adder can be early
pub adder_early : (edges : List Edge) (changes : List PointChange) (at : ℤ) (certain : List Certainty) (adder : ℕ) → AreCertain edges changes at certain → IsAdder changes certain adder
    → HasSchedule (edges ++ early_edge at (change_at changes adder).point ∷ [])
adder_early edges changes at certain adder are is =
    let own = subst (IsCertainty edges at (change_at changes adder).point) is.maybe (are.each adder is.within) in
    (own.0.0, one_early edges at (change_at changes adder).point own.0.0 own.0.1 own.0.2)

-- without an adder there are no more pairs
pub adder_none : (edges : List Edge) (changes : List PointChange) (at : ℤ) (certain : List Certainty) (adder : ℕ) (pairs : List Amount) → (IsAdder changes certain adder → ⊥)
    → ArePairs edges changes at certain (λ one other. one < adder) pairs → ArePairs edges changes at certain (λ one other. one < adder + 1) pairs
adder_none edges changes at certain adder pairs none are = pairs_weaker edges changes at certain (λ one other. one < adder) (λ one other. one < adder + 1) pairs
    (λ one other is below.
    ⊎_elim
    (λ before. before)
    (λ past.
    let here : one ≡ adder = omega (arith, below, past) in
    absurd (none (subst (IsAdder changes certain) here (record { within = is.adder_there; adds = is.adds; maybe = is.adder_maybe }))))
    (cases_lt one adder)) are

-- the adders before this one are dealt with, and with it the takers before the place
abbrev pub DealtWith : ℕ → ℕ → ℕ → ℕ → Type 0
DealtWith adder place one other = (one < adder) ⊎ ((one ≡ adder) × (other < place))

module _ (edges : List Edge) (changes : List PointChange) (at : ℤ) (certain : List Certainty) (greatest : List (Option ℤ)) (adder : ℕ) (are_certain : AreCertain edges changes at certain) (is_adder : IsAdder changes certain adder)
    (are_greatest : AreGreatestValues (length greatest) (edges ++ early_edge at (change_at changes adder).point ∷ []) greatest) where
  candidate_from : (taker : ℕ) → IsTaker changes certain taker → IsCandidate changes certain adder taker
  candidate_from taker is = record {
    adder_there = is_adder.within;
    taker_there = is.within;
    adds = is_adder.adds;
    takes = is.takes;
    adder_maybe = is_adder.maybe;
    taker_maybe = is.maybe;
  }

  -- a taker that has happened whenever the adder has
  pub pair_from : (taker : ℕ) (number : Option ℤ) → IsTaker changes certain taker → IsGreatestValue (edges ++ early_edge at (change_at changes adder).point ∷ []) (change_at changes taker).point number
      → MatchOption number ⊥ (λ value. value ≤ℤ at) → IsPair edges changes certain (record { from = adder; to = taker; amount = pos 0 })
  pair_from taker number is of by =
      let own = subst (IsCertainty edges at (change_at changes adder).point) is_adder.maybe (are_certain.each adder is_adder.within) in
      let its = subst (IsCertainty edges at (change_at changes taker).point) is.maybe (are_certain.each taker is.within) in
      record {
        candidate = candidate_from taker is;
        precedes = precedes_from edges at (change_at changes adder).point (change_at changes taker).point own.0 its.1 (follows_from edges at (change_at changes adder).point (change_at changes taker).point number of by);
      }

  next_cases : (place one other : ℕ) → DealtWith adder (place + 1) one other → DealtWith adder place one other ⊎ ((adder ≡ one) × (place ≡ other))
  next_cases place one other dealt =
      ⊎_elim
      (λ before. inl (inl before))
      (λ here.
      ⊎_elim
      (λ same. inr (sym here.0, sym same))
      (λ differs. inl (inr (here.0, omega (arith, here.1, differs))))
      (cases_eq other place))
      dealt

  pub next_pair : (place : ℕ) (number : Option ℤ) (pairs : List Amount) → IsTaker changes certain place
      → IsGreatestValue (edges ++ early_edge at (change_at changes adder).point ∷ []) (change_at changes place).point number → MatchOption number ⊥ (λ value. value ≤ℤ at)
      → ArePairs edges changes at certain (DealtWith adder place) pairs → ArePairs edges changes at certain (DealtWith adder (place + 1)) (pairs ++ (record { from = adder; to = place; amount = pos 0 }) ∷ [])
  next_pair place number pairs is of by are =
      pairs_more edges changes at certain (DealtWith adder place) (DealtWith adder (place + 1)) pairs (record { from = adder; to = place; amount = pos 0 }) (pair_from place number is of by) refl
      (λ one other candidate dealt. next_cases place one other dealt) are

  -- the taker is none, or may be after the instant
  pub next_passed : (place : ℕ) (number : Option ℤ) (pairs : List Amount) → IsGreatestValue (edges ++ early_edge at (change_at changes adder).point ∷ []) (change_at changes place).point number
      → (MatchOption number ⊥ (λ value. value ≤ℤ at) → IsTaker changes certain place → ⊥)
      → ArePairs edges changes at certain (DealtWith adder place) pairs → ArePairs edges changes at certain (DealtWith adder (place + 1)) pairs
  next_passed place number pairs of none are =
      pairs_passed edges changes at certain (DealtWith adder place) (DealtWith adder (place + 1)) pairs
      (λ one other candidate dealt.
      ⊎_elim
      (λ old. inl old)
      (λ here. inr (subst (λ p. MayPart edges at (change_at changes p).point (change_at changes other).point) here.0
      (subst (λ p. MayPart edges at (change_at changes adder).point (change_at changes p).point) here.1
      (may_part edges at (change_at changes adder).point (change_at changes place).point number of
      (λ by. none by (record { within = subst (λ p. p < length changes) (sym here.1) candidate.taker_there; takes = subst (λ p. (change_at changes p).add <ℤ pos 0) (sym here.1) candidate.takes; maybe = subst (λ p. certain_at certain p ≡ Maybe) (sym here.1) candidate.taker_maybe }))))))
      (next_cases place one other dealt))
      are

  pub dealt_first : (pairs : List Amount) → ArePairs edges changes at certain (λ one other. one < adder) pairs → ArePairs edges changes at certain (DealtWith adder 0) pairs
  dealt_first pairs are = pairs_weaker edges changes at certain (λ one other. one < adder) (DealtWith adder 0) pairs (λ one other candidate dealt. ⊎_elim (λ before. before) (λ here. absurd (omega (arith, here.1))) dealt) are

  pub dealt_last : (place : ℕ) (pairs : List Amount) → length changes ≤ place → ArePairs edges changes at certain (DealtWith adder place) pairs → ArePairs edges changes at certain (λ one other. one < adder + 1) pairs
  dealt_last place pairs past are = pairs_weaker edges changes at certain (DealtWith adder place) (λ one other. one < adder + 1) pairs
      (λ one other candidate dealt. ⊎_elim (λ before. inl before) (λ not_before. inr (omega (arith, dealt, not_before), omega (arith, candidate.taker_there, past))) (cases_lt one adder)) are

  next_greatest : (place : ℕ) → All (IsChange (length greatest)) changes → place < length changes → IsGreatestValue (edges ++ early_edge at (change_at changes adder).point ∷ []) (change_at changes place).point (get_or greatest (change_at changes place).point None)
  next_greatest place all within = are_greatest.each (change_at changes place).point (All-get_or (IsChange (length greatest)) changes place (record { point = 0; add = pos 0 }) within all).point

  pub next_follower : (place : ℕ) (pairs : List Amount) → All (IsChange (length greatest)) changes → IsFollower changes certain greatest at place
      → ArePairs edges changes at certain (DealtWith adder place) pairs → ArePairs edges changes at certain (DealtWith adder (place + 1)) (pairs ++ (record { from = adder; to = place; amount = pos 0 }) ∷ [])
  next_follower place pairs all is are =
      next_pair place (get_or greatest (change_at changes place).point None) pairs is.taker (next_greatest place all is.taker.within) is.by are

  pub next_other : (place : ℕ) (pairs : List Amount) → All (IsChange (length greatest)) changes → place < length changes → (IsFollower changes certain greatest at place → ⊥)
      → ArePairs edges changes at certain (DealtWith adder place) pairs → ArePairs edges changes at certain (DealtWith adder (place + 1)) pairs
  next_other place pairs all within none are =
      next_passed place (get_or greatest (change_at changes place).point None) pairs (next_greatest place all within) (λ by taker. none (record { by = by; taker = taker })) are
