-- What is kept when more goes along a pair, or along one in place of another.
use Rattle.std.proofs.Common.{◌≡◌, ◌≢◌, ℕ, ◌<◌, ℤ, pos, neg_ℤ, ◌+ℤ◌, ◌-ℤ◌, ◌≤ℤ◌, ◌<ℤ◌, ⊎_elim, List, length, w64, to_z, of_z, set, refl, sym, ap, ◌∙◌, subst, arith}
use Rattle.std.proofs.lemmas.Int.{ints}
use Rattle.std.proofs.lemmas.Bool.{cases_eq}
use Rattle.std.proofs.lemmas.List.{length-set, get_or-set_same, get_or-set_other}
use Rattle.temporal_core.specs.Satisfied.{value_at, value_sum}
use Rattle.temporal_core.proofs.Values.{value_at-set_same, value_at-set_other, total-set}
use Rattle.flow_envelope.specs.declared.change.Amount.{Amount}
use Rattle.flow_envelope.specs.Sums.{share, sum_at, sum_from, sum_to}
use Rattle.flow_envelope.specs.Pairs.{pair_at}
use Rattle.flow_envelope.specs.Flow.{IsFlow, with_amount, IsCarried, IsMoved, IsSent, IsShifted}
use Rattle.flow_envelope.proofs.Adding.{share-same, share-other, sum_at-set, sum_at-low, sum_at-part}

-- ---- nothing moved, and one move after another

pub moved_none : (pairs : List Amount) (more room : List ℤ) → IsMoved pairs more room pairs more room
moved_none pairs more room = record {
  count = refl;
  more_count = refl;
  room_count = refl;
  from = λ place. refl;
  to = λ place. refl;
  all_from = λ place. refl;
  all_to = λ place. refl;
}

pub moved_both : (pairs : List Amount) (more room : List ℤ) (pairs' : List Amount) (more' room' : List ℤ) (pairs'' : List Amount) (more'' room'' : List ℤ)
    → IsMoved pairs more room pairs' more' room' → IsMoved pairs' more' room' pairs'' more'' room'' → IsMoved pairs more room pairs'' more'' room''
moved_both pairs more room pairs' more' room' pairs'' more'' room'' first second = record {
  count = second.count ∙ first.count;
  more_count = second.more_count ∙ first.more_count;
  room_count = second.room_count ∙ first.room_count;
  from = λ place. second.from place ∙ first.from place;
  to = λ place. second.to place ∙ first.to place;
  all_from = λ place. second.all_from place ∙ first.all_from place;
  all_to = λ place. second.all_to place ∙ first.all_to place;
}

-- ---- no amount is more than a million

pub amount_most : (pairs : List Amount) (more room : List ℤ) (place : ℕ) → IsFlow pairs more room → place < length pairs → (pair_at pairs place).amount ≤ℤ pos 1000000
amount_most pairs more room place flow within =
    let part = sum_at-part (λ pair. pair.from) pairs place (pair_at pairs place).from flow.amounts within in
    let own = share-same (λ pair. pair.from) (pair_at pairs place) (pair_at pairs place).from refl in
    let most = flow.most_from (pair_at pairs place).from in
    let low = flow.low_more (pair_at pairs place).from in
    omega (arith, ints)

pub more_most : (pairs : List Amount) (more room : List ℤ) (place : ℕ) → IsFlow pairs more room → value_at more place ≤ℤ pos 1000000
more_most pairs more room place flow =
    let low = sum_at-low (λ pair. pair.from) pairs place flow.amounts in
    let most = flow.most_from place in
    omega (arith, ints)

pub room_most : (pairs : List Amount) (more room : List ℤ) (place : ℕ) → IsFlow pairs more room → value_at room place ≤ℤ pos 1000000
room_most pairs more room place flow =
    let low = sum_at-low (λ pair. pair.to) pairs place flow.amounts in
    let most = flow.most_to place in
    omega (arith, ints)

-- ---- more goes along one pair

module _ (place : ℕ) (by : ℤ) (pairs : List Amount) (more room : List ℤ) (pairs' : List Amount) (more' room' : List ℤ)
    (flow : IsFlow pairs more room) (within : place < length pairs) (is : IsCarried place by pairs more room pairs' more' room') where
  from_within : (pair_at pairs place).from < length more
  from_within = flow.from place within

  to_within : (pair_at pairs place).to < length room
  to_within = omega (arith, flow.to place within, flow.count)

  pair_same : pair_at pairs' place ≡ with_amount (pair_at pairs place) by
  pair_same = ap (λ (list : List Amount). pair_at list place) is.along ∙ get_or-set_same pairs place (with_amount (pair_at pairs place) by) (record { from = 0; to = 0; amount = pos 0 }) within

  pub pair_other : (k : ℕ) → k ≢ place → pair_at pairs' k ≡ pair_at pairs k
  pair_other k other = ap (λ (list : List Amount). pair_at list k) is.along ∙ get_or-set_other pairs place k (with_amount (pair_at pairs place) by) (record { from = 0; to = 0; amount = pos 0 }) other

  pub amount_same : (pair_at pairs' place).amount ≡ (pair_at pairs place).amount +ℤ by
  amount_same = ap (λ (pair : Amount). pair.amount) pair_same

  pub ends_from : (k : ℕ) → (pair_at pairs' k).from ≡ (pair_at pairs k).from
  ends_from k =
      ⊎_elim
      (λ same. subst (λ j. (pair_at pairs' j).from ≡ (pair_at pairs j).from) (sym same) (ap (λ (pair : Amount). pair.from) pair_same))
      (λ other. ap (λ (pair : Amount). pair.from) (pair_other k other))
      (cases_eq k place)

  pub ends_to : (k : ℕ) → (pair_at pairs' k).to ≡ (pair_at pairs k).to
  ends_to k =
      ⊎_elim
      (λ same. subst (λ j. (pair_at pairs' j).to ≡ (pair_at pairs j).to) (sym same) (ap (λ (pair : Amount). pair.to) pair_same))
      (λ other. ap (λ (pair : Amount). pair.to) (pair_other k other))
      (cases_eq k place)

  pub count_pairs : length pairs' ≡ length pairs
  count_pairs = ap (λ (list : List Amount). length list) is.along ∙ length-set pairs place (with_amount (pair_at pairs place) by)

  count_more : length more' ≡ length more
  count_more = ap (λ (list : List ℤ). length list) is.gives ∙ length-set more (pair_at pairs place).from (value_at more (pair_at pairs place).from -ℤ by)

  count_room : length room' ≡ length room
  count_room = ap (λ (list : List ℤ). length list) is.gets ∙ length-set room (pair_at pairs place).to (value_at room (pair_at pairs place).to -ℤ by)

  pub more_same : value_at more' (pair_at pairs place).from ≡ value_at more (pair_at pairs place).from -ℤ by
  more_same = ap (λ (list : List ℤ). value_at list (pair_at pairs place).from) is.gives ∙ value_at-set_same more (pair_at pairs place).from (value_at more (pair_at pairs place).from -ℤ by) from_within

  pub more_other : (k : ℕ) → k ≢ (pair_at pairs place).from → value_at more' k ≡ value_at more k
  more_other k other = ap (λ (list : List ℤ). value_at list k) is.gives ∙ value_at-set_other more (pair_at pairs place).from k (value_at more (pair_at pairs place).from -ℤ by) other

  pub room_same : value_at room' (pair_at pairs place).to ≡ value_at room (pair_at pairs place).to -ℤ by
  room_same = ap (λ (list : List ℤ). value_at list (pair_at pairs place).to) is.gets ∙ value_at-set_same room (pair_at pairs place).to (value_at room (pair_at pairs place).to -ℤ by) to_within

  pub room_other : (k : ℕ) → k ≢ (pair_at pairs place).to → value_at room' k ≡ value_at room k
  room_other k other = ap (λ (list : List ℤ). value_at list k) is.gets ∙ value_at-set_other room (pair_at pairs place).to k (value_at room (pair_at pairs place).to -ℤ by) other

  sums : (end : Amount → ℕ) (k : ℕ) → sum_at end pairs' k +ℤ share end (pair_at pairs place) k ≡ sum_at end pairs k +ℤ share end (with_amount (pair_at pairs place) by) k
  sums end k = ap (λ (list : List Amount). sum_at end list k +ℤ share end (pair_at pairs place) k) is.along ∙ sum_at-set end pairs place (with_amount (pair_at pairs place) by) k within

  pub all_from : (k : ℕ) → (value_at more' k +ℤ sum_from pairs' k) ≡ value_at more k +ℤ sum_from pairs k
  all_from k =
      let both = sums (λ pair. pair.from) k in
      ⊎_elim
      (λ same.
      let old = share-same (λ pair. pair.from) (pair_at pairs place) k same in
      let now = share-same (λ pair. pair.from) (with_amount (pair_at pairs place) by) k same in
      let value = subst (λ j. value_at more' j ≡ value_at more j -ℤ by) same more_same in
      omega (arith, ints))
      (λ other.
      let old = share-other (λ pair. pair.from) (pair_at pairs place) k other in
      let now = share-other (λ pair. pair.from) (with_amount (pair_at pairs place) by) k other in
      let value = more_other k (λ is_same. other (sym is_same)) in
      omega (arith, ints))
      (cases_eq (pair_at pairs place).from k)

  pub all_to : (k : ℕ) → (value_at room' k +ℤ sum_to pairs' k) ≡ value_at room k +ℤ sum_to pairs k
  all_to k =
      let both = sums (λ pair. pair.to) k in
      ⊎_elim
      (λ same.
      let old = share-same (λ pair. pair.to) (pair_at pairs place) k same in
      let now = share-same (λ pair. pair.to) (with_amount (pair_at pairs place) by) k same in
      let value = subst (λ j. value_at room' j ≡ value_at room j -ℤ by) same room_same in
      omega (arith, ints))
      (λ other.
      let old = share-other (λ pair. pair.to) (pair_at pairs place) k other in
      let now = share-other (λ pair. pair.to) (with_amount (pair_at pairs place) by) k other in
      let value = room_other k (λ is_same. other (sym is_same)) in
      omega (arith, ints))
      (cases_eq (pair_at pairs place).to k)

  pub carried_moved : IsMoved pairs more room pairs' more' room'
  carried_moved = record {
    count = count_pairs;
    more_count = count_more;
    room_count = count_room;
    from = ends_from;
    to = ends_to;
    all_from = all_from;
    all_to = all_to;
  }

  pub carried_sum : value_sum more' +ℤ by ≡ value_sum more
  carried_sum =
      let same : value_sum more' ≡ value_sum (set more (pair_at pairs place).from (value_at more (pair_at pairs place).from -ℤ by)) = ap value_sum is.gives in
      let total = total-set more (pair_at pairs place).from (value_at more (pair_at pairs place).from -ℤ by) from_within in
      omega (arith, ints)

  module _ (some : pos 0 ≤ℤ ((pair_at pairs place).amount +ℤ by)) (give : by ≤ℤ value_at more (pair_at pairs place).from) (get : by ≤ℤ value_at room (pair_at pairs place).to) where
    carried_amounts : (k : ℕ) → pos 0 ≤ℤ (pair_at pairs' k).amount
    carried_amounts k =
        ⊎_elim
        (λ same. subst (λ j. pos 0 ≤ℤ (pair_at pairs' j).amount) (sym same) (let is_now = amount_same in omega (arith, ints)))
        (λ other. let before = flow.amounts k in let is_now = ap (λ (pair : Amount). pair.amount) (pair_other k other) in omega (arith, ints))
        (cases_eq k place)

    carried_more : (k : ℕ) → pos 0 ≤ℤ value_at more' k
    carried_more k =
        ⊎_elim
        (λ same. subst (λ j. pos 0 ≤ℤ value_at more' j) (sym same) (let is_now = more_same in omega (arith, ints)))
        (λ other. let before = flow.low_more k in let is_now = more_other k other in omega (arith, ints))
        (cases_eq k (pair_at pairs place).from)

    carried_room : (k : ℕ) → pos 0 ≤ℤ value_at room' k
    carried_room k =
        ⊎_elim
        (λ same. subst (λ j. pos 0 ≤ℤ value_at room' j) (sym same) (let is_now = room_same in omega (arith, ints)))
        (λ other. let before = flow.low_room k in let is_now = room_other k other in omega (arith, ints))
        (cases_eq k (pair_at pairs place).to)

    pub carried_flow : IsFlow pairs' more' room'
    carried_flow = record {
      few = omega (arith, flow.few, count_more);
      count = count_room ∙ (flow.count ∙ sym count_more);
      from = λ k h. omega (arith, flow.from k (omega (arith, h, count_pairs)), ends_from k, count_more);
      to = λ k h. omega (arith, flow.to k (omega (arith, h, count_pairs)), ends_to k, count_more);
      amounts = carried_amounts;
      low_more = carried_more;
      low_room = carried_room;
      most_from = λ k. let all = all_from k in let most = flow.most_from k in omega (arith, ints);
      most_to = λ k. let all = all_to k in let most = flow.most_to k in omega (arith, ints);
    }

    pub is_sent : pos 0 <ℤ by → IsSent pairs more room pairs' more' room'
    is_sent greater = record {
      flow = carried_flow;
      moved = carried_moved;
      less = let sum = carried_sum in omega (arith, ints);
    }

-- what the code writes
pub carried_from : (place : ℕ) (by : ℤ) (pairs : List Amount) (more room : List ℤ) (pair : Amount) (amount given gotten : ℤ) → pair ≡ pair_at pairs place → amount ≡ pair.amount +ℤ by
    → given ≡ value_at more pair.from -ℤ by → gotten ≡ value_at room pair.to -ℤ by
    → IsCarried place by pairs more room (set pairs place (record { from = pair.from; to = pair.to; amount = amount })) (set more pair.from given) (set room pair.to gotten)
carried_from place by pairs more room pair amount given gotten is amount_is given_is gotten_is =
    record {
      along = ap (set pairs place) (ap (λ z. record { from = pair.from; to = pair.to; amount = z }) amount_is ∙ ap (λ (p : Amount). with_amount p by) is);
      gives = ap (set more pair.from) given_is ∙ ap (λ (p : Amount). set more p.from (value_at more p.from -ℤ by)) is;
      gets = ap (set room pair.to) gotten_is ∙ ap (λ (p : Amount). set room p.to (value_at room p.to -ℤ by)) is;
    }

pub cast_same : (by : ℤ) → neg_ℤ (pos 1000000) ≤ℤ by → by ≤ℤ pos 1000000 → to_z w64 (of_z w64 by) ≡ by
cast_same by low high = omega (arith, ints)

pub cast_back : (by : ℤ) → pos 0 ≤ℤ by → by ≤ℤ pos 1000000 → to_z w64 (of_z w64 (pos 0 -ℤ to_z w64 (of_z w64 by))) ≡ neg_ℤ by
cast_back by low high = omega (arith, ints)

-- ---- one pair in place of another

module _ (place other : ℕ) (by : ℤ) (pairs : List Amount) (more room : List ℤ) (pairs' : List Amount) (more' room' : List ℤ) (pairs'' : List Amount) (more'' room'' : List ℤ)
    (flow : IsFlow pairs more room) (within : place < length pairs) (other_within : other < length pairs) (same_to : (pair_at pairs other).to ≡ (pair_at pairs place).to)
    (some : pos 0 <ℤ by) (give : by ≤ℤ value_at more (pair_at pairs place).from) (take : by ≤ℤ (pair_at pairs other).amount)
    (first : IsCarried other (neg_ℤ by) pairs more room pairs' more' room') where
  pub back_some : pos 0 ≤ℤ ((pair_at pairs other).amount +ℤ neg_ℤ by)
  back_some = omega (arith, ints)

  pub back_more : neg_ℤ by ≤ℤ value_at more (pair_at pairs other).from
  back_more = let low = flow.low_more (pair_at pairs other).from in omega (arith, ints)

  pub back_room : neg_ℤ by ≤ℤ value_at room (pair_at pairs other).to
  back_room = let low = flow.low_room (pair_at pairs other).to in omega (arith, ints)

  pub back_flow : IsFlow pairs' more' room'
  back_flow = carried_flow other (neg_ℤ by) pairs more room pairs' more' room' flow other_within first back_some back_more back_room

  pub on_within : place < length pairs'
  on_within = omega (arith, within, count_pairs other (neg_ℤ by) pairs more room pairs' more' room' flow other_within first)

  on_from : (pair_at pairs' place).from ≡ (pair_at pairs place).from
  on_from = ends_from other (neg_ℤ by) pairs more room pairs' more' room' flow other_within first place

  on_to : (pair_at pairs' place).to ≡ (pair_at pairs place).to
  on_to = ends_to other (neg_ℤ by) pairs more room pairs' more' room' flow other_within first place

  pub on_some : pos 0 ≤ℤ ((pair_at pairs' place).amount +ℤ by)
  on_some = let low = back_flow.amounts place in omega (arith, ints)

  -- no place has less
  rises : (k : ℕ) → value_at more k ≤ℤ value_at more' k
  rises k =
      ⊎_elim
      (λ same. subst (λ j. value_at more j ≤ℤ value_at more' j) (sym same) (let now = more_same other (neg_ℤ by) pairs more room pairs' more' room' flow other_within first in omega (arith, ints)))
      (λ differs. let now = more_other other (neg_ℤ by) pairs more room pairs' more' room' flow other_within first k differs in omega (arith, ints))
      (cases_eq k (pair_at pairs other).from)

  pub on_more : by ≤ℤ value_at more' (pair_at pairs' place).from
  on_more = subst (λ j. by ≤ℤ value_at more' j) (sym on_from) (let up = rises (pair_at pairs place).from in omega (arith, ints))

  taker_room : value_at room' (pair_at pairs place).to ≡ value_at room (pair_at pairs place).to +ℤ by
  taker_room = subst (λ j. value_at room' j ≡ value_at room j +ℤ by) same_to (let now = room_same other (neg_ℤ by) pairs more room pairs' more' room' flow other_within first in omega (arith, ints))

  pub on_room : by ≤ℤ value_at room' (pair_at pairs' place).to
  on_room = subst (λ j. by ≤ℤ value_at room' j) (sym on_to) (let now = taker_room in let low = flow.low_room (pair_at pairs place).to in omega (arith, ints))

  module _ (second : IsCarried place by pairs' more' room' pairs'' more'' room'') where
    room_still : (k : ℕ) → value_at room'' k ≡ value_at room k
    room_still k =
        ⊎_elim
        (λ same.
        let now = subst (λ j. value_at room'' j ≡ value_at room' j -ℤ by) on_to (room_same place by pairs' more' room' pairs'' more'' room'' back_flow on_within second) in
        let was = taker_room in
        subst (λ j. value_at room'' j ≡ value_at room j) (sym same) (omega (arith, ints)))
        (λ differs.
        room_other place by pairs' more' room' pairs'' more'' room'' back_flow on_within second k (λ is. differs (is ∙ on_to))
        ∙ room_other other (neg_ℤ by) pairs more room pairs' more' room' flow other_within first k (λ is. differs (is ∙ same_to)))
        (cases_eq k (pair_at pairs place).to)

    others_still : (k : ℕ) → (pair_at pairs k).to ≢ (pair_at pairs place).to → (pair_at pairs'' k).amount ≡ (pair_at pairs k).amount
    others_still k differs =
        ap (λ (pair : Amount). pair.amount) (pair_other place by pairs' more' room' pairs'' more'' room'' back_flow on_within second k (λ is. differs (ap (λ j. (pair_at pairs j).to) is)))
        ∙ ap (λ (pair : Amount). pair.amount) (pair_other other (neg_ℤ by) pairs more room pairs' more' room' flow other_within first k (λ is. differs (ap (λ j. (pair_at pairs j).to) is ∙ same_to)))

    gives_more : pos 0 <ℤ value_at more'' (pair_at pairs other).from
    gives_more =
        let now = more_same other (neg_ℤ by) pairs more room pairs' more' room' flow other_within first in
        let low = flow.low_more (pair_at pairs other).from in
        ⊎_elim
        (λ same.
        let now_more = subst (λ j. value_at more'' j ≡ value_at more' j -ℤ by) (sym (same ∙ sym on_from)) (more_same place by pairs' more' room' pairs'' more'' room'' back_flow on_within second) in
        let had = subst (λ j. by ≤ℤ value_at more j) (sym same) give in
        omega (arith, ints))
        (λ differs.
        let now_more = more_other place by pairs' more' room' pairs'' more'' room'' back_flow on_within second (pair_at pairs other).from (λ is. differs (is ∙ on_from)) in
        omega (arith, ints))
        (cases_eq (pair_at pairs other).from (pair_at pairs place).from)

    pub is_shifted : IsShifted (pair_at pairs place).to (pair_at pairs other).from pairs more room pairs'' more'' room''
    is_shifted = record {
      flow = carried_flow place by pairs' more' room' pairs'' more'' room'' back_flow on_within second on_some on_more on_room;
      moved = moved_both pairs more room pairs' more' room' pairs'' more'' room''
          (carried_moved other (neg_ℤ by) pairs more room pairs' more' room' flow other_within first)
          (carried_moved place by pairs' more' room' pairs'' more'' room'' back_flow on_within second);
      sum =
          let one = carried_sum other (neg_ℤ by) pairs more room pairs' more' room' flow other_within first in
          let two = carried_sum place by pairs' more' room' pairs'' more'' room'' back_flow on_within second in
          omega (arith, ints);
      same_room = room_still;
      others = others_still;
      has_more = gives_more;
    }
