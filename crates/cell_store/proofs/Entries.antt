-- The entries of steps and of what cells were.
use Rattle.std.proofs.Common.{◌≡◌, ◌≢◌, ℕ, zero, suc, ◌+◌, ◌<◌, ◌≤◌, true, false, ◌==◌, List, [], ◌∷◌, ◌++◌, length, length-append, drop, slice_get, slice_index_or, refl, inl, inr, sym, ap, ◌∙◌, subst, if◌then◌else◌, arith}
use Rattle.std.specs.Prelude.{Option, Some, None, MatchOption, SomeIff, nat_lt}
use Rattle.std.specs.List.Sorted.{IsPartitionedBy, IsPartitionPoint}
use Rattle.std.proofs.lemmas.Bool.{cases_lt, lt-ltb, ltb-true, ltb-false}
use Rattle.std.proofs.lemmas.List.{get_or_default}
use Rattle.cell_store.specs.declared.trail.Entry.{Entry}
use Rattle.cell_store.specs.declared.trail.Entry.TheVariants.{Added}
use Rattle.cell_store.specs.declared.steps.Former.{Former}
use Rattle.cell_store.specs.Trails.{narrowed, entry_at, entries_of, AreSteps, written_by, IsWritten, TakesEntry, EndsWith, EndsOtherwise}
use Rattle.cell_store.proofs.Rewriting.{equal_cases}
use Rattle.cell_store.proofs.Views.{get-append_left}

pub length-entries : (count : ℕ) (formers : List Former) → length (entries_of count formers) ≡ count
length-entries zero formers = refl
length-entries (suc step) formers = omega (arith, length-append (entries_of step formers) (entry_at formers step ∷ []), length-entries step formers)

-- ---- what a step did

entry_here : (former : Former) (formers : List Former) (step : ℕ) → former.step ≡ step → entry_at (former ∷ formers) step ≡ narrowed former
entry_here former formers step is = elim (equal_cases former.step step) [
  | inl same ↦ ap (λ b. if b then narrowed former else entry_at formers step) same.0
  | inr differ ↦ absurd (differ.1 is)
]

entry_later : (former : Former) (formers : List Former) (step : ℕ) → former.step ≢ step → entry_at (former ∷ formers) step ≡ entry_at formers step
entry_later former formers step apart = elim (equal_cases former.step step) [
  | inl same ↦ absurd (apart same.1)
  | inr differ ↦ ap (λ b. if b then narrowed former else entry_at formers step) differ.0
]

-- where no former is that of the step
entry_none : (formers : List Former) (step : ℕ) → ((k : ℕ) (d : Former) → k < length formers → (slice_index_or formers k d).step ≢ step) → entry_at formers step ≡ Added
entry_none [] step none = refl
entry_none (former ∷ formers) step none =
    entry_later former formers step (none 0 former (omega arith)) ∙ entry_none formers step (λ k d below. none (suc k) d (omega (arith, below)))

-- ---- the order of the steps

steps_upto : (from count : ℕ) (formers : List Former) → AreSteps from count formers → from ≤ count
steps_upto from count [] are = are
steps_upto from count (former ∷ formers) are = omega (arith, are.0, steps_upto (former.step + 1) count formers are.1)

step_within : (from count : ℕ) (formers : List Former) (k : ℕ) (d : Former) → AreSteps from count formers → k < length formers
    → (from ≤ (slice_index_or formers k d).step) × ((slice_index_or formers k d).step < count)
step_within from count [] k d are below = absurd (omega (arith, below))
step_within from count (former ∷ formers) zero d are below = (are.0, omega (arith, steps_upto (former.step + 1) count formers are.1))
step_within from count (former ∷ formers) (suc k) d are below =
    let rest = step_within (former.step + 1) count formers k d are.1 (omega (arith, below)) in
    (omega (arith, are.0, rest.0), rest.1)

steps_rise : (from count : ℕ) (formers : List Former) (i j : ℕ) (d : Former) → AreSteps from count formers → i < j → j < length formers
    → (slice_index_or formers i d).step < (slice_index_or formers j d).step
steps_rise from count [] i j d are before below = absurd (omega (arith, below))
steps_rise from count (former ∷ formers) i zero d are before below = absurd (omega (arith, before))
steps_rise from count (former ∷ formers) zero (suc j) d are before below = omega (arith, (step_within (former.step + 1) count formers j d are.1 (omega (arith, below))).0)
steps_rise from count (former ∷ formers) (suc i) (suc j) d are before below = steps_rise (former.step + 1) count formers i j d are.1 (omega (arith, before)) (omega (arith, below))

-- the former at a place says what its step did
entry_found : (from count : ℕ) (formers : List Former) (k : ℕ) (d : Former) → AreSteps from count formers → k < length formers
    → entry_at formers (slice_index_or formers k d).step ≡ narrowed (slice_index_or formers k d)
entry_found from count [] k d are below = absurd (omega (arith, below))
entry_found from count (former ∷ formers) zero d are below = entry_here former formers former.step refl
entry_found from count (former ∷ formers) (suc k) d are below =
    let rises = (step_within (former.step + 1) count formers k d are.1 (omega (arith, below))).0 in
    entry_later former formers (slice_index_or formers k d).step (λ same. absurd (omega (arith, same, rises)))
    ∙ entry_found (former.step + 1) count formers k d are.1 (omega (arith, below))

-- ---- one more step

no_entry : (from count : ℕ) (formers : List Former) → AreSteps from count formers → entry_at formers count ≡ Added
no_entry from count formers are = entry_none formers count (λ k d below. λ same. absurd (omega (arith, same, (step_within from count formers k d are below).1)))

pub steps_more : (from count more : ℕ) (formers : List Former) → AreSteps from count formers → count ≤ more → AreSteps from more formers
steps_more from count more [] are upto = omega (arith, are, upto)
steps_more from count more (former ∷ formers) are upto = (are.0, steps_more (former.step + 1) count more formers are.1 upto)

steps_longer : (from count : ℕ) (formers : List Former) (former : Former) → AreSteps from count formers → former.step ≡ count → AreSteps from (count + 1) (formers ++ former ∷ [])
steps_longer from count [] former are is = (omega (arith, are, is), omega (arith, is))
steps_longer from count (first ∷ formers) former are is = (are.0, steps_longer (first.step + 1) count formers former are.1 is)

steps_shorter : (from count : ℕ) (formers : List Former) (former : Former) → AreSteps from count (formers ++ former ∷ []) → AreSteps from former.step formers
steps_shorter from count [] former are = are.0
steps_shorter from count (first ∷ formers) former are = (are.0, steps_shorter (first.step + 1) count formers former are.1)

-- the others stay what they were
entry_front : (formers : List Former) (former : Former) (step : ℕ) → former.step ≢ step → entry_at (formers ++ former ∷ []) step ≡ entry_at formers step
entry_front [] former step apart = entry_later former [] step apart
entry_front (first ∷ formers) former step apart =
    ap (λ entry. if first.step == step then narrowed first else entry) (entry_front formers former step apart)

entries_front : (count : ℕ) (formers : List Former) (former : Former) → count ≤ former.step → entries_of count (formers ++ former ∷ []) ≡ entries_of count formers
entries_front zero formers former upto = refl
entries_front (suc step) formers former upto =
    let apart : former.step ≢ step = λ same. absurd (omega (arith, same, upto)) in
    λ i. entries_front step formers former (omega (arith, upto)) i ++ entry_front formers former step apart i ∷ []

entry_last : (from count : ℕ) (formers : List Former) (former : Former) → AreSteps from count formers → former.step ≡ count → entry_at (formers ++ former ∷ []) count ≡ narrowed former
entry_last from count [] former are is = entry_here former [] count is
entry_last from count (first ∷ formers) former are is =
    let upto = steps_upto (first.step + 1) count formers are.1 in
    entry_later first (formers ++ former ∷ []) count (λ same. absurd (omega (arith, same, upto))) ∙ entry_last (first.step + 1) count formers former are.1 is

-- what the last step did is the end of the entries
pub entries_last : (count : ℕ) (formers : List Former) → entries_of (count + 1) formers ≡ entries_of count formers ++ entry_at formers count ∷ []
entries_last count formers = (λ i. entries_of (one i) formers)
  where
    one : count + 1 ≡ suc count
    one = omega arith

narrowed_entries : (count : ℕ) (formers : List Former) (former : Former) → AreSteps 0 count formers → former.step ≡ count
    → entries_of (count + 1) (formers ++ former ∷ []) ≡ entries_of count formers ++ narrowed former ∷ []
narrowed_entries count formers former are is =
    entries_last count (formers ++ former ∷ [])
    ∙ (λ i. entries_front count formers former (omega (arith, is)) i ++ entry_last 0 count formers former are is i ∷ [])

-- what stands at a place of the entries
pub entry_get : (count : ℕ) (formers : List Former) (step : ℕ) → step < count → slice_get (entries_of count formers) step ≡ Some (entry_at formers step)
entry_get zero formers step below = absurd (omega (arith, below))
entry_get (suc last) formers step below = elim (equal_cases step last) [
  | inl same ↦ at_end (entries_of last formers) (entry_at formers last) step (same.1 ∙ sym (length-entries last formers)) ∙ ap (λ n. Some (entry_at formers n)) (sym same.1)
  | inr differ ↦
      let low : step < last = lower step last below differ.1 in
      get-append_left (entries_of last formers) (entry_at formers last ∷ []) step (omega (arith, low, length-entries last formers)) ∙ entry_get last formers step low
]
  where
    at_end : (entries : List Entry) (entry : Entry) (place : ℕ) → place ≡ length entries → slice_get (entries ++ entry ∷ []) place ≡ Some entry
    at_end [] entry zero is = refl
    at_end [] entry (suc place) is = absurd (omega (arith, is))
    at_end (first ∷ entries) entry zero is = absurd (omega (arith, is))
    at_end (first ∷ entries) entry (suc place) is = at_end entries entry place (omega (arith, is))

    lower : (one other : ℕ) → one < suc other → one ≢ other → one < other
    lower one other below differ = omega arith

-- ---- as the calls say it

pub pushed_added : (count more : ℕ) (formers : List Former) (shown : List Entry) → AreSteps 0 count formers → entries_of count formers ≡ shown → more ≡ count + 1
    → AreSteps 0 more formers × (entries_of more formers ≡ shown ++ Added ∷ [])
pushed_added count more formers shown are view is = (
  steps_more 0 count more formers are (omega (arith, is)),
  ap (λ n. entries_of n formers) is ∙ entries_last count formers ∙ (λ i. view i ++ no_entry 0 count formers are i ∷ []),
)

pub pushed_narrowed : (count more : ℕ) (formers longer : List Former) (former : Former) (shown : List Entry) → AreSteps 0 count formers → entries_of count formers ≡ shown
    → more ≡ count + 1 → longer ≡ formers ++ former ∷ [] → former.step ≡ count
    → AreSteps 0 more longer × (entries_of more longer ≡ shown ++ narrowed former ∷ [])
pushed_narrowed count more formers longer former shown are view is long step = (
  (subst (λ n. AreSteps 0 n longer) (sym is) (subst (AreSteps 0 (count + 1)) (sym long) (steps_longer 0 count formers former are step))),
  (λ i. entries_of (is i) (long i)) ∙ narrowed_entries count formers former are step ∙ ap (λ list. list ++ narrowed former ∷ []) view,
)

-- the last former isn't that of the last step
steps_fewer : (from step : ℕ) (formers : List Former) → from ≤ step → AreSteps from (step + 1) formers → EndsOtherwise step formers → AreSteps from step formers
steps_fewer from step [] low are otherwise = low
steps_fewer from step (former ∷ []) low are otherwise = (are.0, before former.step step are.1 (otherwise [] former refl))
  where
    before : (one other : ℕ) → one + 1 ≤ other + 1 → one ≢ other → one + 1 ≤ other
    before one other upto apart = omega arith
steps_fewer from step (former ∷ second ∷ formers) low are otherwise =
    let upto = steps_upto (second.step + 1) (step + 1) formers are.1.1 in (
      are.0,
      steps_fewer (former.step + 1) step (second ∷ formers) (omega (arith, are.1.0, upto)) are.1
          (λ front last is. otherwise (former ∷ front) last (ap (λ list. former ∷ list) is)),
    )

pub takes_added : (step : ℕ) (formers : List Former) → AreSteps 0 (step + 1) formers → EndsOtherwise step formers → TakesEntry step formers Added formers
takes_added step formers are otherwise =
    let fewer = steps_fewer 0 step formers (omega arith) are otherwise in
    record {
      entries = entries_last step formers ∙ ap (λ entry. entries_of step formers ++ entry ∷ []) (no_entry 0 step formers fewer);
      steps = fewer;
    }

pub takes_narrowed : (step : ℕ) (formers rest : List Former) (former : Former) → AreSteps 0 (step + 1) formers → EndsWith step formers → formers ≡ rest ++ former ∷ []
    → TakesEntry step formers (narrowed former) rest
takes_narrowed step formers rest former are ends is =
    let same = lasts_same ends.0 rest ends.1 former (sym ends.2.0 ∙ is) in
    let at : former.step ≡ step = ap (λ one. one.step) (sym same) ∙ ends.2.1 in
    let had : AreSteps 0 step rest = subst (λ n. AreSteps 0 n rest) at (steps_shorter 0 (step + 1) rest former (subst (AreSteps 0 (step + 1)) is are)) in
    record { entries = ap (entries_of (step + 1)) is ∙ narrowed_entries step rest former had at; steps = had }
  where
    lasts_same : (xs ys : List Former) (x y : Former) → xs ++ x ∷ [] ≡ ys ++ y ∷ [] → x ≡ y
    lasts_same [] [] x y same = ap (λ list. slice_index_or list 0 x) same
    lasts_same [] (b ∷ ys) x y same = absurd (omega (arith, ap length same, length-append ys (y ∷ [])))
    lasts_same (a ∷ xs) [] x y same = absurd (omega (arith, ap length same, length-append xs (x ∷ [])))
    lasts_same (a ∷ xs) (b ∷ ys) x y same = lasts_same xs ys x y (ap (drop 1) same)

-- ---- bisection

pub earlier_first : (count step : ℕ) (formers : List Former) → AreSteps 0 count formers → IsPartitionedBy (λ former. nat_lt former.step step) formers
earlier_first count step formers are = λ i j d upto below passes.
    elim (cases_lt i j) [
      | inl before ↦
          let rises = steps_rise 0 count formers i j d are before below in
          lt-ltb _ _ (omega (arith, rises, ltb-true _ _ passes))
      | inr after ↦ let same : j ≡ i = omega (arith, upto, after) in subst (λ k. nat_lt (slice_index_or formers k d).step step ≡ true) same passes
    ]

pub parted : (step place : ℕ) (formers : List Former) → IsPartitionPoint (λ former. nat_lt former.step step ≡ true) (λ former. nat_lt former.step step ≡ false) formers place
    → IsPartitionPoint (λ former. former.step < step) (λ former. step ≤ former.step) formers place
parted step place formers point = ((λ k d low high. ltb-true _ _ (point.0 k d low high)), (λ k d low high. ltb-false _ _ (point.1 k d low high)))

-- where all from the place on come behind the step, and those before it in front of it
none_there : (step place : ℕ) (formers : List Former) → IsPartitionPoint (λ former. former.step < step) (λ former. step ≤ former.step) formers place
    → ((k : ℕ) (d : Former) → place ≤ k → k < length formers → (slice_index_or formers k d).step ≢ step) → entry_at formers step ≡ Added
none_there step place formers point behind =
    entry_none formers step (λ k d below. elim (cases_lt k place) [
      | inl before ↦
          let less = point.0 k d (omega arith) before in
          λ same. absurd (omega (arith, same, less))
      | inr after ↦ behind k d after below
    ])

pub none_behind : (step place : ℕ) (formers : List Former) → IsPartitionPoint (λ former. former.step < step) (λ former. step ≤ former.step) formers place
    → length formers ≤ place → IsWritten (entry_at formers step) None
none_behind step place formers point past = ap written_by (sym (none_there step place formers point (λ k d after below. absurd (omega (arith, past, after, below)))))

pub found_there : (count step place : ℕ) (formers : List Former) (found : Former) (result : Option ℕ) → AreSteps 0 count formers
    → IsPartitionPoint (λ former. former.step < step) (λ former. step ≤ former.step) formers place
    → place < length formers → found ≡ slice_index_or formers place found → SomeIff result (found.step ≡ step) found.cell → IsWritten (entry_at formers step) result
found_there count step place formers found (Some cell) are point below is told =
    let at : entry_at formers found.step ≡ narrowed found =
    subst (λ one. entry_at formers one.step ≡ narrowed one) (sym is) (entry_found 0 count formers place found are below) in
    ap Some told.1 ∙ ap written_by (sym (ap (entry_at formers) (sym told.0) ∙ at))
found_there count step place formers found None are point below is told =
    let from : step ≤ found.step = subst (λ one. step ≤ one.step) (sym is) (point.1 place found (omega arith) below) in
    ap written_by (sym (none_there step place formers point (λ k d after within. λ same.
    absurd (told (exactly k d from after within same)))))
  where
    exactly : (k : ℕ) (d : Former) → step ≤ found.step → place ≤ k → k < length formers → (slice_index_or formers k d).step ≡ step → found.step ≡ step
    exactly k d from after within same = elim (cases_lt place k) [
      | inl before ↦
          let rises = steps_rise 0 count formers place k d are before within in
          let here : (slice_index_or formers place d).step ≡ found.step = ap (λ one. one.step) (get_or_default formers place d found below ∙ sym is) in
          omega (arith, rises, here, same, from)
      | inr upto ↦
          let here : (slice_index_or formers place d).step ≡ found.step = ap (λ one. one.step) (get_or_default formers place d found below ∙ sym is) in
          let one : k ≡ place = omega (arith, after, upto) in
          sym here ∙ ap (λ n. (slice_index_or formers n d).step) (sym one) ∙ same
    ]

pub popped : (step count : ℕ) (formers left : List Former) (entry : Entry) (shown : List Entry) → entries_of count formers ≡ shown → count ≡ step + 1 → TakesEntry step formers entry left
    → shown ≡ entries_of step left ++ entry ∷ []
popped step count formers left entry shown view is takes = sym view ∙ ap (λ n. entries_of n formers) is ∙ takes.entries

-- what was added last is taken off again
fronts_same : {X : Type 0} (xs ys : List X) (x y : X) → xs ++ x ∷ [] ≡ ys ++ y ∷ [] → xs ≡ ys
fronts_same [] [] x y same = refl
fronts_same [] (b ∷ ys) x y same = absurd (omega (arith, ap length same, length-append ys (y ∷ [])))
fronts_same (a ∷ xs) [] x y same = absurd (omega (arith, ap length same, length-append xs (x ∷ [])))
fronts_same (a ∷ xs) (b ∷ ys) x y same =
    let head : a ≡ b = ap (λ list. slice_index_or list 0 a) same in
    let tail = fronts_same xs ys x y (ap (drop 1) same) in
    (λ i. head i ∷ tail i)

pub popped_again : (old more new : List Entry) (last : Entry) (result : Option Entry) → more ≡ old ++ last ∷ [] → MatchOption result ((more ≡ []) × (new ≡ more)) (λ entry. more ≡ new ++ entry ∷ []) → new ≡ old
popped_again old more new last None is popped = absurd (omega (arith, ap length (sym is ∙ popped.0), length-append old (last ∷ [])))
popped_again old more new last (Some entry) is popped = fronts_same new old entry last (sym popped ∙ is)
