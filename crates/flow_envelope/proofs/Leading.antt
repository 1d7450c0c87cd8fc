-- Labels: how they begin, grow and lead on.
use Rattle.std.proofs.Common.{◌≡◌, ◌≢◌, ℕ, suc, zero, ◌+◌, ◌<◌, ◌≤◌, ℤ, pos, ◌≤ℤ◌, ◌<ℤ◌, inl, inr, ⊎_elim, eqb, List, [], ◌∷◌, length, set, refl, sym, ap, ◌∙◌, subst, arith}
use Rattle.std.proofs.lemmas.Int.{ints}
use Rattle.std.proofs.lemmas.Bool.{cases_lt, cases_eq, eq-eqb, ne_eqb, cond-true, cond-false}
use Rattle.std.proofs.lemmas.List.{length-set, get_or-set_same, get_or-set_other, get_or_past}
use Rattle.temporal_core.specs.Satisfied.{value_at, value_sum}
use Rattle.flow_envelope.specs.declared.change.Amount.{Amount}
use Rattle.flow_envelope.specs.declared.labels.Label.{Label}
use Rattle.flow_envelope.specs.Pairs.{pair_at}
use Rattle.flow_envelope.specs.Flow.{IsShifted}
use Rattle.flow_envelope.specs.Labels.{label_at, IsAdderLed, IsTakerLed, AreLed, IsSeed, without, unlabelled, AreLabels, IsSettled, AreGrown, IsVisited, AreClosed, IsStart}
use Rattle.flow_envelope.specs.Filling.{IsHandedOn}
use Rattle.flow_envelope.proofs.Adding.{compared}

-- ---- labels by their places

pub label_same : (labels : List Label) (place : ℕ) (label : Label) → place < length labels → label_at (set labels place label) place ≡ label
label_same labels place label within = get_or-set_same labels place label (record { rank = 0; via = 0 }) within

pub label_other : (labels : List Label) (place : ℕ) (label : Label) (k : ℕ) → k ≢ place → label_at (set labels place label) k ≡ label_at labels k
label_other labels place label k other = get_or-set_other labels place k label (record { rank = 0; via = 0 }) other

pub ranked_within : (labels : List Label) (place : ℕ) → 0 < (label_at labels place).rank → place < length labels
ranked_within labels place ranked =
    ⊎_elim
    (λ within. within)
    (λ past. let none = ap (λ (label : Label). label.rank) (get_or_past labels place (record { rank = 0; via = 0 }) past) in absurd (omega arith))
    (cases_lt place (length labels))

without_none : (label : Label) → label.rank ≡ 0 → without label ≡ 1
unfolding without
without_none label is = cond-true (eqb label.rank 0) 1 0 (eq-eqb label.rank 0 is)

without_some : (label : Label) → 0 < label.rank → without label ≡ 0
unfolding without
without_some label some = cond-false (eqb label.rank 0) 1 0 (ne_eqb label.rank 0 (λ is. omega arith))

without_most : (label : Label) → without label ≤ 1
without_most label = ⊎_elim (λ is. omega (arith, without_none label is)) (λ other. omega (arith, without_some label (omega (arith, other)))) (cases_eq label.rank 0)

pub unlabelled_most : (labels : List Label) → unlabelled labels ≤ length labels
unlabelled_most [] = omega arith
unlabelled_most (label ∷ labels) = omega (arith, unlabelled_most labels, without_most label)

unlabelled-set : (labels : List Label) (place : ℕ) (label : Label) → place < length labels → (label_at labels place).rank ≡ 0 → 0 < label.rank → suc (unlabelled (set labels place label)) ≡ unlabelled labels
unlabelled-set [] place label within is some = absurd (omega arith)
unlabelled-set (first ∷ labels) zero label within is some = omega (arith, without_none first is, without_some label some)
unlabelled-set (first ∷ labels) (suc place) label within is some = omega (arith, unlabelled-set labels place label (omega arith) is some)

-- ---- what leads on still does when more is labelled

-- no label that was there is another one
abbrev pub Stays : List Label → List Label → Type 0
Stays labels labels' = (place : ℕ) → 0 < (label_at labels place).rank → label_at labels' place ≡ label_at labels place

pub stays_set : (labels : List Label) (place : ℕ) (label : Label) → (label_at labels place).rank ≡ 0 → Stays labels (set labels place label)
stays_set labels place label is k ranked = label_other labels place label k (λ same. let none = ap (λ j. (label_at labels j).rank) same in omega arith)

adder_still : (pairs : List Amount) (adders takers adders' takers' : List Label) (place : ℕ) → Stays adders adders' → Stays takers takers' → 0 < (label_at adders place).rank → IsAdderLed pairs adders takers place → IsAdderLed pairs adders' takers' place
adder_still pairs adders takers adders' takers' place stays stays_too ranked led =
    let same = sym (stays place ranked) in
    let same_too = sym (stays_too (pair_at pairs (label_at adders place).via).to led.some) in
    record {
      via = subst (λ (l : Label). l.via < length pairs) same led.via;
      from = subst (λ (l : Label). (pair_at pairs l.via).from ≡ place) same led.from;
      some = subst (λ (l : Label). 0 < (label_at takers' (pair_at pairs l.via).to).rank) same (subst (λ (l : Label). 0 < l.rank) same_too led.some);
      lower = subst (λ (l : Label). (label_at takers' (pair_at pairs l.via).to).rank < l.rank) same (subst (λ (l : Label). l.rank < (label_at adders place).rank) same_too led.lower);
    }

taker_still : (pairs : List Amount) (adders takers adders' takers' : List Label) (place : ℕ) → Stays adders adders' → Stays takers takers' → 0 < (label_at takers place).rank → IsTakerLed pairs adders takers place → IsTakerLed pairs adders' takers' place
taker_still pairs adders takers adders' takers' place stays stays_too ranked led =
    let same = sym (stays_too place ranked) in
    let same_too = sym (stays (pair_at pairs (label_at takers place).via).from led.some) in
    record {
      via = subst (λ (l : Label). l.via < length pairs) same led.via;
      to = subst (λ (l : Label). (pair_at pairs l.via).to ≡ place) same led.to;
      amount = subst (λ (l : Label). pos 0 <ℤ (pair_at pairs l.via).amount) same led.amount;
      some = subst (λ (l : Label). 0 < (label_at adders' (pair_at pairs l.via).from).rank) same (subst (λ (l : Label). 0 < l.rank) same_too led.some);
      lower = subst (λ (l : Label). (label_at adders' (pair_at pairs l.via).from).rank < l.rank) same (subst (λ (l : Label). l.rank < (label_at takers place).rank) same_too led.lower);
    }

pub led_lower : (pairs : List Amount) (room : List ℤ) (adders takers : List Label) (limit less : ℕ) → less ≤ limit → AreLed pairs room adders takers limit → AreLed pairs room adders takers less
led_lower pairs room adders takers limit less under led = record {
  adder = λ place ranked below. led.adder place ranked (omega (arith, below, under));
  taker = λ place ranked below. led.taker place ranked (omega (arith, below, under));
}

-- ---- one more label

module _ (pairs : List Amount) (room : List ℤ) (adders takers : List Label) (next place : ℕ) (within : place < length pairs) (are : AreLabels pairs room adders takers next) where
  module _ (there : (pair_at pairs place).from < length adders) (none : (label_at adders (pair_at pairs place).from).rank ≡ 0) (leads : 0 < (label_at takers (pair_at pairs place).to).rank) where
    new_adder : label_at (set adders (pair_at pairs place).from (record { rank = next; via = place })) (pair_at pairs place).from ≡ record { rank = next; via = place }
    new_adder = label_same adders (pair_at pairs place).from (record { rank = next; via = place }) there

    more_stays : Stays adders (set adders (pair_at pairs place).from (record { rank = next; via = place }))
    more_stays = stays_set adders (pair_at pairs place).from (record { rank = next; via = place }) none

    led_new : IsAdderLed pairs (set adders (pair_at pairs place).from (record { rank = next; via = place })) takers (pair_at pairs place).from
    led_new =
        let same = sym new_adder in
        record {
          via = subst (λ (l : Label). l.via < length pairs) same within;
          from = subst (λ (l : Label). (pair_at pairs l.via).from ≡ (pair_at pairs place).from) same refl;
          some = subst (λ (l : Label). 0 < (label_at takers (pair_at pairs l.via).to).rank) same leads;
          lower = subst (λ (l : Label). (label_at takers (pair_at pairs l.via).to).rank < l.rank) same (are.below_takers (pair_at pairs place).to);
        }

    pub adder_labels : AreLabels pairs room (set adders (pair_at pairs place).from (record { rank = next; via = place })) takers (next + 1)
    adder_labels = record {
      some = omega (arith, are.some);
      below_adders = λ k.
          ⊎_elim
          (λ same. subst (λ j. (label_at (set adders (pair_at pairs place).from (record { rank = next; via = place })) j).rank < next + 1) (sym same) (subst (λ (l : Label). l.rank < next + 1) (sym new_adder) (omega arith)))
          (λ other. subst (λ (l : Label). l.rank < next + 1) (sym (label_other adders (pair_at pairs place).from (record { rank = next; via = place }) k other)) (omega (arith, are.below_adders k)))
          (cases_eq k (pair_at pairs place).from);
      below_takers = λ k. omega (arith, are.below_takers k);
      led = record {
        adder = λ k ranked below.
            ⊎_elim
            (λ same. subst (λ j. IsAdderLed pairs (set adders (pair_at pairs place).from (record { rank = next; via = place })) takers j) (sym same) led_new)
            (λ other.
            let was = subst (λ (l : Label). 0 < l.rank) (label_other adders (pair_at pairs place).from (record { rank = next; via = place }) k other) ranked in
            adder_still pairs adders takers (set adders (pair_at pairs place).from (record { rank = next; via = place })) takers k more_stays (λ j is. refl) was
            (are.led.adder k was (omega (arith, are.below_adders k))))
            (cases_eq k (pair_at pairs place).from);
        taker = λ k ranked below.
            ⊎_elim
            (λ has_room. inl has_room)
            (λ led. inr (taker_still pairs adders takers (set adders (pair_at pairs place).from (record { rank = next; via = place })) takers k more_stays (λ j is. refl) ranked led))
            (are.led.taker k ranked (omega (arith, are.below_takers k)));
      };
    }

  module _ (there : (pair_at pairs place).to < length takers) (none : (label_at takers (pair_at pairs place).to).rank ≡ 0) (leads : 0 < (label_at adders (pair_at pairs place).from).rank) (some : pos 0 <ℤ (pair_at pairs place).amount) where
    new_taker : label_at (set takers (pair_at pairs place).to (record { rank = next; via = place })) (pair_at pairs place).to ≡ record { rank = next; via = place }
    new_taker = label_same takers (pair_at pairs place).to (record { rank = next; via = place }) there

    taker_stays : Stays takers (set takers (pair_at pairs place).to (record { rank = next; via = place }))
    taker_stays = stays_set takers (pair_at pairs place).to (record { rank = next; via = place }) none

    taker_new : IsTakerLed pairs adders (set takers (pair_at pairs place).to (record { rank = next; via = place })) (pair_at pairs place).to
    taker_new =
        let same = sym new_taker in
        record {
          via = subst (λ (l : Label). l.via < length pairs) same within;
          to = subst (λ (l : Label). (pair_at pairs l.via).to ≡ (pair_at pairs place).to) same refl;
          amount = subst (λ (l : Label). pos 0 <ℤ (pair_at pairs l.via).amount) same some;
          some = subst (λ (l : Label). 0 < (label_at adders (pair_at pairs l.via).from).rank) same leads;
          lower = subst (λ (l : Label). (label_at adders (pair_at pairs l.via).from).rank < l.rank) same (are.below_adders (pair_at pairs place).from);
        }

    pub taker_labels : AreLabels pairs room adders (set takers (pair_at pairs place).to (record { rank = next; via = place })) (next + 1)
    taker_labels = record {
      some = omega (arith, are.some);
      below_adders = λ k. omega (arith, are.below_adders k);
      below_takers = λ k.
          ⊎_elim
          (λ same. subst (λ j. (label_at (set takers (pair_at pairs place).to (record { rank = next; via = place })) j).rank < next + 1) (sym same) (subst (λ (l : Label). l.rank < next + 1) (sym new_taker) (omega arith)))
          (λ other. subst (λ (l : Label). l.rank < next + 1) (sym (label_other takers (pair_at pairs place).to (record { rank = next; via = place }) k other)) (omega (arith, are.below_takers k)))
          (cases_eq k (pair_at pairs place).to);
      led = record {
        adder = λ k ranked below. adder_still pairs adders takers adders (set takers (pair_at pairs place).to (record { rank = next; via = place })) k (λ j is. refl) taker_stays ranked (are.led.adder k ranked (omega (arith, are.below_adders k)));
        taker = λ k ranked below.
            ⊎_elim
            (λ same. inr (subst (λ j. IsTakerLed pairs adders (set takers (pair_at pairs place).to (record { rank = next; via = place })) j) (sym same) taker_new))
            (λ other.
            let was = subst (λ (l : Label). 0 < l.rank) (label_other takers (pair_at pairs place).to (record { rank = next; via = place }) k other) ranked in
            ⊎_elim
            (λ has_room. inl has_room)
            (λ led. inr (taker_still pairs adders takers adders (set takers (pair_at pairs place).to (record { rank = next; via = place })) k (λ j is. refl) taker_stays was led))
            (are.led.taker k was (omega (arith, are.below_takers k))))
            (cases_eq k (pair_at pairs place).to);
      };
    }

-- ---- growing, and visits

pub grown_adder : (adders takers : List Label) (place next via : ℕ) → place < length adders → (label_at adders place).rank ≡ 0 → 0 < next
    → AreGrown adders takers (set adders place (record { rank = next; via = via })) takers next (next + 1)
grown_adder adders takers place next via there none some = record {
  adders_count = length-set adders place (record { rank = next; via = via });
  takers_count = refl;
  kept = λ k ranked. ranked;
  later = omega arith;
  left = omega (arith, unlabelled-set adders place (record { rank = next; via = via }) there none some);
}

pub grown_taker : (adders takers : List Label) (place next via : ℕ) → place < length takers → (label_at takers place).rank ≡ 0 → 0 < next
    → AreGrown adders takers adders (set takers place (record { rank = next; via = via })) next (next + 1)
grown_taker adders takers place next via there none some = record {
  adders_count = refl;
  takers_count = length-set takers place (record { rank = next; via = via });
  kept = λ k ranked. subst (λ (l : Label). 0 < l.rank) (sym (stays_set takers place (record { rank = next; via = via }) none k ranked)) ranked;
  later = omega arith;
  left = omega (arith, unlabelled-set takers place (record { rank = next; via = via }) there none some);
}

pub grown_none : (adders takers : List Label) (next : ℕ) → AreGrown adders takers adders takers next next
grown_none adders takers next = record { adders_count = refl; takers_count = refl; kept = λ k ranked. ranked; later = omega arith; left = refl }

pub grown_both : (adders takers adders' takers' adders'' takers'' : List Label) (next next' next'' : ℕ) → AreGrown adders takers adders' takers' next next' → AreGrown adders' takers' adders'' takers'' next' next'' → AreGrown adders takers adders'' takers'' next next''
grown_both adders takers adders' takers' adders'' takers'' next next' next'' first second = record {
  adders_count = second.adders_count ∙ first.adders_count;
  takers_count = second.takers_count ∙ first.takers_count;
  kept = λ k ranked. second.kept k (first.kept k ranked);
  later = omega (arith, first.later, second.later);
  left = second.left ∙ first.left;
}

-- the pairs before this place are settled, if nothing was labelled
abbrev pub IsSwept : List Amount → List ℤ → List Label → List Label → ℕ → ℕ → ℕ → Type 0
IsSwept pairs more adders takers next next' place = next' ≡ next → (k : ℕ) → k < place → IsSettled pairs more adders takers k

pub swept_more : (pairs : List Amount) (more : List ℤ) (adders takers adders' takers' : List Label) (next next' next'' place : ℕ)
    → next ≤ next' → next' ≤ next'' → IsSwept pairs more adders takers next next' place → IsVisited pairs place adders takers adders' takers' next' next''
    → (0 < (label_at adders' (pair_at pairs place).from).rank → pos 0 <ℤ value_at more (pair_at pairs place).from → ⊥)
    → IsSwept pairs more adders' takers' next next'' (place + 1)
swept_more pairs more adders takers adders' takers' next next' next'' place later later_too swept visited spent same k within =
    ⊎_elim
    (λ still.
    let same_before : next' ≡ next = omega (arith, same, later, later_too) in
    let P : List Label → List Label → Type 0 = λ one other. IsSettled pairs more one other k in
    subst (λ (list : List Label). P list takers') (sym still.0) (subst (λ (list : List Label). P adders list) (sym still.1)
    (⊎_elim
    (λ before. swept same_before k before)
    (λ past.
    let here : place ≡ k = omega (arith, within, past) in
    subst (λ j. IsSettled pairs more adders takers j) here (record {
      back = still.3;
      forth = still.4;
      spent = λ ranked.
          ⊎_elim
          (λ more_there. absurd (spent (subst (λ (list : List Label). 0 < (label_at list (pair_at pairs place).from).rank) (sym still.0) ranked) more_there.1))
          (λ none. none.1)
          (compared (pos 0) (value_at more (pair_at pairs place).from));
    }))
    (cases_lt k place))))
    (λ grew. absurd (omega (arith, same, later, grew)))
    visited

pub visited_back : (pairs : List Amount) (place : ℕ) (adders takers : List Label) (next : ℕ) → 0 < (label_at adders (pair_at pairs place).from).rank → 0 < (label_at takers (pair_at pairs place).to).rank
    → IsVisited pairs place adders takers adders takers next next
visited_back pairs place adders takers next adder taker = inl (refl, refl, refl, (λ ranked. adder), (λ some ranked. taker))

pub visited_none : (pairs : List Amount) (place : ℕ) (adders takers : List Label) (next : ℕ) → (label_at adders (pair_at pairs place).from).rank ≡ 0 → (label_at takers (pair_at pairs place).to).rank ≡ 0
    → IsVisited pairs place adders takers adders takers next next
visited_none pairs place adders takers next adder taker = inl (refl, refl, refl, (λ ranked. absurd (omega arith)), (λ some ranked. absurd (omega arith)))

pub visited_idle : (pairs : List Amount) (place : ℕ) (adders takers : List Label) (next : ℕ) → (pair_at pairs place).amount ≤ℤ pos 0 → (label_at takers (pair_at pairs place).to).rank ≡ 0
    → IsVisited pairs place adders takers adders takers next next
visited_idle pairs place adders takers next idle taker = inl (refl, refl, refl, (λ ranked. absurd (omega arith)), (λ some ranked. absurd (omega (arith, ints))))

-- ---- how a search begins and ends

module _ (pairs : List Amount) (more room : List ℤ) (adders takers : List Label) (no_adders : (place : ℕ) → (label_at adders place).rank ≡ 0) (seeds : (place : ℕ) → IsSeed (value_at room place) (label_at takers place)) where
  seed_most : (place : ℕ) → (label_at takers place).rank ≤ 1
  seed_most place =
      ⊎_elim
      (λ above. omega (arith, (seeds place).room_there above.1))
      (λ below. omega (arith, (seeds place).no_room below.1))
      (compared (pos 0) (value_at room place))

  pub first_labels : AreLabels pairs room adders takers 2
  first_labels = record {
    some = omega arith;
    below_adders = λ place. omega (arith, no_adders place);
    below_takers = λ place. omega (arith, seed_most place);
    led = record {
      adder = λ place ranked below. absurd (omega (arith, no_adders place, ranked));
      taker = λ place ranked below.
          ⊎_elim
          (λ above. inl above.1)
          (λ none. absurd (omega (arith, (seeds place).no_room none.1, ranked)))
          (compared (pos 0) (value_at room place));
    };
  }

  pub first_seeds : (place : ℕ) → pos 0 <ℤ value_at room place → 0 < (label_at takers place).rank
  first_seeds place above = omega (arith, (seeds place).room_there above)

pub closed_from : (pairs : List Amount) (more room : List ℤ) (adders takers : List Label) (next : ℕ) → AreLabels pairs room adders takers next
    → ((place : ℕ) → pos 0 <ℤ value_at room place → 0 < (label_at takers place).rank) → ((place : ℕ) → place < length pairs → IsSettled pairs more adders takers place) → AreClosed pairs more room adders takers
closed_from pairs more room adders takers next are seeds settled = record {
  seeds = seeds;
  settled = settled;
  spent = λ place ranked.
      let led = are.led.adder place ranked (omega (arith, are.below_adders place)) in
      let here = settled (label_at adders place).via led.via in
      subst (λ j. value_at more j ≤ℤ pos 0) led.from (here.spent (subst (λ j. 0 < (label_at adders j).rank) (sym led.from) ranked));
}

pub start_from : (pairs : List Amount) (more room : List ℤ) (adders takers : List Label) (next start : ℕ) → AreLabels pairs room adders takers next → start < length more → 0 < (label_at adders start).rank → pos 0 <ℤ value_at more start
    → IsStart pairs more room adders takers start
start_from pairs more room adders takers next start are within ranked has_more = record {
  within = within;
  led = led_lower pairs room adders takers next (label_at adders start).rank (omega (arith, are.below_adders start)) are.led;
  some = ranked;
  has_more = has_more;
}

-- ---- a step along the labels

module _ (pairs : List Amount) (more room : List ℤ) (adders takers : List Label) (place : ℕ) (start : IsStart pairs more room adders takers place) where
  pub own_led : IsAdderLed pairs adders takers place
  own_led = start.led.adder place start.some (omega arith)

  pub own_more : pos 0 <ℤ value_at more (pair_at pairs (label_at adders place).via).from
  own_more = subst (λ j. pos 0 <ℤ value_at more j) (sym own_led.from) start.has_more

  pub full_led : value_at room (pair_at pairs (label_at adders place).via).to ≤ℤ pos 0 → IsTakerLed pairs adders takers (pair_at pairs (label_at adders place).via).to
  full_led full =
      ⊎_elim
      (λ has_room. absurd (omega (arith, ints)))
      (λ led. led)
      (start.led.taker (pair_at pairs (label_at adders place).via).to own_led.some (omega (arith, own_led.lower)))

  module _ (pairs' : List Amount) (more' room' : List ℤ) (led : IsTakerLed pairs adders takers (pair_at pairs (label_at adders place).via).to)
      (shifted : IsShifted (pair_at pairs (label_at adders place).via).to (pair_at pairs (label_at takers (pair_at pairs (label_at adders place).via).to).via).from pairs more room pairs' more' room') where
    adder_on : (k : ℕ) → IsAdderLed pairs adders takers k → IsAdderLed pairs' adders takers k
    adder_on k was =
        let via = (label_at adders k).via in
        let to = sym (shifted.moved.to via) in
        record {
          via = omega (arith, was.via, shifted.moved.count);
          from = shifted.moved.from via ∙ was.from;
          some = subst (λ j. 0 < (label_at takers j).rank) to was.some;
          lower = subst (λ j. (label_at takers j).rank < (label_at adders k).rank) to was.lower;
        }

    taker_on : (k : ℕ) → k ≢ (pair_at pairs (label_at adders place).via).to → IsTakerLed pairs adders takers k → IsTakerLed pairs' adders takers k
    taker_on k differs was =
        let via = (label_at takers k).via in
        let from = sym (shifted.moved.from via) in
        record {
          via = omega (arith, was.via, shifted.moved.count);
          to = shifted.moved.to via ∙ was.to;
          amount = subst (λ z. pos 0 <ℤ z) (sym (shifted.others via (λ is. differs (sym was.to ∙ is)))) was.amount;
          some = subst (λ j. 0 < (label_at adders j).rank) from was.some;
          lower = subst (λ j. (label_at adders j).rank < (label_at takers k).rank) from was.lower;
        }

    pub handed_on : IsHandedOn adders takers place pairs more room pairs' more' room' (pair_at pairs (label_at takers (pair_at pairs (label_at adders place).via).to).via).from
    handed_on = record {
      flow = shifted.flow;
      moved = shifted.moved;
      same = shifted.sum;
      start = record {
        within = subst (λ j. j < length more') (shifted.moved.from (label_at takers (pair_at pairs (label_at adders place).via).to).via)
            (shifted.flow.from (label_at takers (pair_at pairs (label_at adders place).via).to).via (omega (arith, led.via, shifted.moved.count)));
        led = record {
          adder = λ k ranked below. adder_on k (start.led.adder k ranked (omega (arith, below, led.lower, own_led.lower)));
          taker = λ k ranked below.
              ⊎_elim
              (λ has_room. inl (subst (λ z. pos 0 <ℤ z) (sym (shifted.same_room k)) has_room))
              (λ was. inr (taker_on k (λ is. let same = ap (λ j. (label_at takers j).rank) is in omega (arith, below, led.lower)) was))
              (start.led.taker k ranked (omega (arith, below, led.lower, own_led.lower)));
        };
        some = led.some;
        has_more = shifted.has_more;
      };
      nearer = omega (arith, led.lower, own_led.lower);
    }

-- the same in the words of the code
pub handed : (pairs : List Amount) (more room : List ℤ) (adders takers : List Label) (place pair taker other next : ℕ) (pairs' : List Amount) (more' room' : List ℤ)
    → IsStart pairs more room adders takers place → pair ≡ (label_at adders place).via → taker ≡ (pair_at pairs pair).to → other ≡ (label_at takers taker).via → next ≡ (pair_at pairs other).from
    → value_at room taker ≤ℤ pos 0 → IsShifted (pair_at pairs pair).to (pair_at pairs other).from pairs more room pairs' more' room'
    → IsHandedOn adders takers place pairs more room pairs' more' room' next
handed pairs more room adders takers place pair taker other next pairs' more' room' start pair_is taker_is other_is next_is full shifted =
    let taker_there : taker ≡ (pair_at pairs (label_at adders place).via).to = taker_is ∙ ap (λ k. (pair_at pairs k).to) pair_is in
    let other_there : other ≡ (label_at takers (pair_at pairs (label_at adders place).via).to).via = other_is ∙ ap (λ k. (label_at takers k).via) taker_there in
    let led = full_led pairs more room adders takers place start (subst (λ k. value_at room k ≤ℤ pos 0) taker_there full) in
    subst (IsHandedOn adders takers place pairs more room pairs' more' room') (sym (next_is ∙ ap (λ k. (pair_at pairs k).from) other_there))
    (handed_on pairs more room adders takers place start pairs' more' room' led
    (subst (λ k. IsShifted (pair_at pairs (label_at adders place).via).to (pair_at pairs k).from pairs more room pairs' more' room') other_there
    (subst (λ k. IsShifted (pair_at pairs k).to (pair_at pairs other).from pairs more room pairs' more' room') pair_is shifted)))

-- what there is to give in all is no less than nothing
pub value_sum-low : (values : List ℤ) → ((place : ℕ) → pos 0 ≤ℤ value_at values place) → pos 0 ≤ℤ value_sum values
value_sum-low [] each = omega (arith, ints)
value_sum-low (value ∷ values) each =
    let here = each zero in
    let rest = value_sum-low values (λ place. each (suc place)) in
    omega (arith, ints)
