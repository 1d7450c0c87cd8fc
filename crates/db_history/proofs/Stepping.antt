-- Tokens that are noted by their objects, as marks are set and gone back to.
use Rattle.std.proofs.Common.{◌≡◌, ◌⊎◌, inl, inr, ℕ, zero, suc, ◌+◌, ◌<◌, ◌≤◌, List, [], ◌∷◌, ◌++◌, length, take, slice_get, slice_index_or, Option, None, Some, refl, sym, ap, ◌∙◌, subst, arith, length-append}
use Rattle.std.proofs.lemmas.List.{length_push, length-take-le, take-append-le, take-take, take_all, take_at}
use Rattle.std.proofs.lemmas.Option.{slice_get-get_or, slice_get_within}
use Rattle.eu_name.proofs.Places.{get_cases}
use Rattle.db_store.specs.declared.store.Mark.{Mark}
use Rattle.db_store.specs.declared.watchers.Watch.{Watch}
use Rattle.db_store.specs.Stores.{Stored, Snapshot, snapshot_of}
use Rattle.db_store.specs.StoreMarks.{IsStoreMark, IsMarkBefore, CanGoBack, KeepStoreMarks, GoesBackTo, with_mark}
use Rattle.db_fixpoint.specs.declared.seating.Seating.{Seating}
use Rattle.db_fixpoint.specs.Seating.{SeatsAll, AreSeatsUpTo, KeepsSeating}
use Rattle.db_fixpoint.proofs.Seated.{up_to_on, kept_on}
use Rattle.db_history.specs.Seated.{AreSeatedAt}
use Rattle.db_history.proofs.Returning.{get_front, marked_here}

none_at : {X : Type 0} (xs : List X) → xs ≡ [] → (k : ℕ) (x : X) → slice_get xs k ≡ Some x → ⊥
none_at xs none k x at = let p : None ≡ Some x = sym (ap (λ list. slice_get list k) none) ∙ at in cc

-- before any mark
pub seated_new : (stored : Stored) (marks : List Mark) (seating : Seating) → marks ≡ [] → seating.mark ≡ None → seating.steps.items ≡ [] → AreSeatedAt stored marks seating
seated_new stored marks seating no_marks unmarked no_steps = record {
  is = subst (λ (mark : Option Mark). AreSeatsUpTo stored mark seating.seats) (sym unmarked) tt;
  count = ap length no_steps ∙ sym (ap length no_marks);
  marked = λ number count mark at_mark at_step. absurd (none_at marks no_marks number mark at_mark);
  order = λ one other less more before at_one at_other. absurd (none_at seating.steps.items no_steps one less at_one);
  within = λ number count at_step. absurd (none_at seating.steps.items no_steps number count at_step);
}

-- more is noted, and the store goes on
pub seated_on : (old new : Stored) (marks : List Mark) (seating later : Seating) → KeepStoreMarks old new → KeepsSeating seating new later → AreSeatedAt old marks seating
    → AreSeatedAt new marks later
seated_on old new marks seating later keep kept seated = record {
  is = kept.is;
  count = ap length kept.steps ∙ seated.count;
  marked = λ number count mark at_mark at_step.
      let was = step_was number count at_step in
      subst (AreSeatsUpTo new (Some mark)) (front count (seated.within number count was))
      (up_to_on old new keep (Some mark) (take count seating.seats) (seated.marked number count mark at_mark was));
  order = λ one other less more before at_one at_other. seated.order one other less more before (step_was one less at_one) (step_was other more at_other);
  within = λ number count at_step.
      let below = seated.within number count (step_was number count at_step) in
      omega (arith, below, ap length kept.grown.1, length-append seating.seats kept.grown.0);
}
  where
    step_was : (number count : ℕ) → slice_get later.steps.items number ≡ Some count → slice_get seating.steps.items number ≡ Some count
    step_was number count at = ap (λ (list : List ℕ). slice_get list number) (sym kept.steps) ∙ at

    front : (count : ℕ) → count ≤ length seating.seats → take count seating.seats ≡ take count later.seats
    front count below = sym (ap (take count) kept.grown.1 ∙ take-append-le count seating.seats kept.grown.0 below)

-- only what is asked for differs
pub seated_same : (stored : Stored) (marks : List Mark) (seating later : Seating) → later.seats ≡ seating.seats → later.mark ≡ seating.mark → later.steps.items ≡ seating.steps.items
    → AreSeatedAt stored marks seating → AreSeatedAt stored marks later
seated_same stored marks seating later seats mark steps seated = record {
  is = subst (λ (list : List Watch). AreSeatsUpTo stored later.mark list) (sym seats) (subst (λ (m : Option Mark). AreSeatsUpTo stored m seating.seats) (sym mark) seated.is);
  count = ap length steps ∙ seated.count;
  marked = λ number count found at_mark at_step.
      subst (λ (list : List Watch). AreSeatsUpTo stored (Some found) (take count list)) (sym seats) (seated.marked number count found at_mark (step_was number count at_step));
  order = λ one other less more before at_one at_other. seated.order one other less more before (step_was one less at_one) (step_was other more at_other);
  within = λ number count at_step. let below = seated.within number count (step_was number count at_step) in omega (arith, below, ap length seats);
}
  where
    step_was : (number count : ℕ) → slice_get later.steps.items number ≡ Some count → slice_get seating.steps.items number ≡ Some count
    step_was number count at = ap (λ (list : List ℕ). slice_get list number) (sym steps) ∙ at

-- what stands in a list with one more
last_or : {X : Type 0} (xs : List X) (y : X) (k : ℕ) (x : X) → slice_get (xs ++ y ∷ []) k ≡ Some x → (slice_get xs k ≡ Some x) ⊎ ((k ≡ length xs) × (y ≡ x))
last_or xs y k x at = elim (get_cases xs (y ∷ []) k x at) [
  | inl there ↦ inl there
  | inr behind ↦ let first = only behind.0 behind.2 in inr (omega (arith, behind.1, first.0), first.1)
]
  where
    only : (n : ℕ) → slice_get (y ∷ []) n ≡ Some x → (n ≡ 0) × (y ≡ x)
    only zero is = (refl, cc)
    only (suc n) is = absurd (cc)

-- a step begins where all is noted
pub seated_step : (stored : Stored) (marks : List Mark) (mark : Mark) (seating later : Seating) → AreSeatedAt stored marks seating
    → SeatsAll stored.keys stored.net.domains seating.seats → IsStoreMark stored mark (snapshot_of stored)
    → later.seats ≡ seating.seats → later.mark ≡ seating.mark → later.steps.items ≡ seating.steps.items ++ length seating.seats ∷ []
    → AreSeatedAt stored (marks ++ mark ∷ []) later
seated_step stored marks mark seating later seated all is seats same steps = record {
  is = subst (λ (list : List Watch). AreSeatsUpTo stored later.mark list) (sym seats) (subst (λ (m : Option Mark). AreSeatsUpTo stored m seating.seats) (sym same) seated.is);
  count = ap length steps ∙ length_push seating.steps.items (length seating.seats) ∙ ap (λ n. n + 1) seated.count ∙ sym (length_push marks mark);
  marked = λ number count found at_mark at_step. noted number count found (last_or marks mark number found at_mark) (step_cases number count at_step);
  order = λ one other less more before at_one at_other. ordered one other less more before (step_cases one less at_one) (step_cases other more at_other);
  within = λ number count at_step. let below = bounded number count (step_cases number count at_step) in omega (arith, below, ap length seats);
}
  where
    IsStep : ℕ → ℕ → Type 0
    IsStep number count = (slice_get seating.steps.items number ≡ Some count) ⊎ ((number ≡ length seating.steps.items) × (length seating.seats ≡ count))

    step_cases : (number count : ℕ) → slice_get later.steps.items number ≡ Some count → IsStep number count
    step_cases number count at = last_or seating.steps.items (length seating.seats) number count (ap (λ (list : List ℕ). slice_get list number) (sym steps) ∙ at)

    bounded : (number count : ℕ) → IsStep number count → count ≤ length seating.seats
    bounded number count (inl at) = seated.within number count at
    bounded number count (inr last) = omega (arith, last.1)

    noted : (number count : ℕ) (found : Mark) → (slice_get marks number ≡ Some found) ⊎ ((number ≡ length marks) × (mark ≡ found)) → IsStep number count
        → AreSeatsUpTo stored (Some found) (take count later.seats)
    noted number count found (inl at) (inl step) =
        subst (λ (list : List Watch). AreSeatsUpTo stored (Some found) (take count list)) (sym seats) (seated.marked number count found at step)
    noted number count found (inl at) (inr last) = let within = slice_get_within marks number found at in absurd (omega (arith, within, last.0, seated.count))
    noted number count found (inr last) (inl step) =
        let within = slice_get_within seating.steps.items number count step in absurd (omega (arith, within, last.0, seated.count))
    noted number count found (inr here) (inr last) =
        let whole : seating.seats ≡ take count later.seats = sym (ap (take count) seats ∙ take_all count seating.seats (omega (arith, last.1))) in
        subst (λ (m : Mark). AreSeatsUpTo stored (Some m) (take count later.seats)) here.1
        (subst (AreSeatsUpTo stored (Some mark)) whole (snapshot_of stored, is, all))

    ordered : (one other less more : ℕ) → one < other → IsStep one less → IsStep other more → less ≤ more
    ordered one other less more before (inl a) (inl b) = seated.order one other less more before a b
    ordered one other less more before (inl a) (inr b) = let below = seated.within one less a in omega (arith, below, b.1)
    ordered one other less more before (inr a) (inl b) =
        let within = slice_get_within seating.steps.items other more b in absurd (omega (arith, before, a.0, within))
    ordered one other less more before (inr a) (inr b) = omega (arith, a.1, b.1)

-- the store that all was noted of is marked then
pub seated_begun : (old caught new : Stored) (marks : List Mark) (mark : Mark) (seating noted later : Seating) → KeepStoreMarks old caught → KeepsSeating seating caught noted
    → SeatsAll caught.keys caught.net.domains noted.seats → AreSeatedAt old marks seating → new ≡ with_mark caught → KeepStoreMarks caught new → IsStoreMark new mark (snapshot_of caught)
    → later.seats ≡ noted.seats → later.mark ≡ noted.mark → later.steps.items ≡ noted.steps.items ++ length noted.seats ∷ [] → AreSeatedAt new (marks ++ mark ∷ []) later
seated_begun old caught new marks mark seating noted later keep kept all seated is on marked =
    seated_step new marks mark noted later
    (seated_on caught new marks noted noted on (kept_on caught new noted on kept.is) (seated_on old caught marks seating noted keep kept seated))
    (subst (λ (stored : Stored). SeatsAll stored.keys stored.net.domains noted.seats) (sym is) all) (marked_here mark caught new is marked)

-- the store goes back to one of its marks
pub seated_back : (old new : Stored) (marks : List Mark) (number : ℕ) (mark : Mark) (seating later : Seating) → AreSeatedAt old marks seating → slice_get marks number ≡ Some mark
    → ((k : ℕ) (earlier : Mark) → k < number → slice_get marks k ≡ Some earlier → IsMarkBefore earlier mark) → GoesBackTo mark old new
    → later.seats ≡ take (slice_index_or seating.steps.items number 0) seating.seats
    → (now : Mark) × (later.mark ≡ Some now) × IsStoreMark new now (snapshot_of new)
    → later.steps.items ≡ take number seating.steps.items → AreSeatedAt new (take number marks) later
seated_back old new marks number mark seating later seated at before back seats marked steps = record {
  is = subst (λ (list : List Watch). AreSeatsUpTo new later.mark list) (sym seats) (subst (λ (m : Option Mark). AreSeatsUpTo new m (take here seating.seats)) (sym marked.1)
      (now_again (seated.marked number here mark at at_here)));
  count = ap length steps ∙ length-take-le number seating.steps.items (omega (arith, below, seated.count)) ∙ sym (length-take-le number marks (omega (arith, below)));
  marked = λ k count earlier at_mark at_step.
      let front = get_front marks number k earlier at_mark in
      let step = step_was k count at_step in
      let less = seated.order k number count here step.0 step.1 at_here in
      subst (AreSeatsUpTo new (Some earlier)) (sym (ap (take count) seats ∙ take_less count less))
      (returned earlier (before k earlier front.0 front.1) (take count seating.seats) (seated.marked k count earlier front.1 step.1));
  order = λ one other less more first at_one at_other. seated.order one other less more first (step_was one less at_one).1 (step_was other more at_other).1;
  within = λ k count at_step.
      let step = step_was k count at_step in
      let less = seated.order k number count here step.0 step.1 at_here in
      omega (arith, less, ap length seats, length-take-le here seating.seats bound);
}
  where
    here : ℕ
    here = slice_index_or seating.steps.items number 0

    below : number < length marks
    below = slice_get_within marks number mark at

    at_here : slice_get seating.steps.items number ≡ Some here
    at_here = slice_get-get_or seating.steps.items number 0 (omega (arith, below, seated.count))

    bound : here ≤ length seating.seats
    bound = seated.within number here at_here

    take_less : (count : ℕ) → count ≤ here → take count (take here seating.seats) ≡ take count seating.seats
    take_less count less = take-take count here seating.seats less

    step_was : (k count : ℕ) → slice_get later.steps.items k ≡ Some count → (k < number) × (slice_get seating.steps.items k ≡ Some count)
    step_was k count step = get_front seating.steps.items number k count (ap (λ (list : List ℕ). slice_get list k) (sym steps) ∙ step)

    now_again : AreSeatsUpTo old (Some mark) (take here seating.seats) → AreSeatsUpTo new (Some marked.0) (take here seating.seats)
    now_again is = (
      snapshot_of new,
      marked.2,
      subst (λ (there : Snapshot). SeatsAll there.keys there.domains (take here seating.seats)) (sym (back.again is.0 is.1)) is.2,
    )

    returned : (earlier : Mark) → IsMarkBefore earlier mark → (list : List Watch) → AreSeatsUpTo old (Some earlier) list → AreSeatsUpTo new (Some earlier) list
    returned earlier less list is = (is.0, back.marks earlier is.0 less is.1, is.2)

pub take_front_all : {X : Type 0} (xs : List X) (y : X) → take (length xs) (xs ++ y ∷ []) ≡ xs
take_front_all xs y = take_at xs (y ∷ []) (length xs) refl

pub last_there : {X : Type 0} (xs : List X) (y : X) → slice_get (xs ++ y ∷ []) (length xs) ≡ Some y
last_there [] y = refl
last_there (x ∷ xs) y = last_there xs y

-- a step is given up
pub seated_given_up : (old mid new : Stored) (marks : List Mark) (mark : Mark) (seating later : Seating) → AreSeatedAt mid (marks ++ mark ∷ []) seating
    → ((earlier : Mark) → CanGoBack old earlier → IsMarkBefore earlier mark)
    → ((k : ℕ) (earlier : Mark) → slice_get marks k ≡ Some earlier → CanGoBack old earlier) → GoesBackTo mark mid new
    → (number : ℕ) → number ≡ length marks
    → later.seats ≡ take (slice_index_or seating.steps.items number 0) seating.seats
    → (now : Mark) × (later.mark ≡ Some now) × IsStoreMark new now (snapshot_of new)
    → later.steps.items ≡ take number seating.steps.items → AreSeatedAt new marks later
seated_given_up old mid new marks mark seating later seated latest can back number last seats marked steps =
    subst (λ list. AreSeatedAt new list later) (ap (λ n. take n (marks ++ mark ∷ [])) last ∙ take_front_all marks mark)
    (seated_back mid new (marks ++ mark ∷ []) number mark seating later seated at_last before back seats marked steps)
  where
    at_last : slice_get (marks ++ mark ∷ []) number ≡ Some mark
    at_last = ap (slice_get (marks ++ mark ∷ [])) last ∙ last_there marks mark

    before : (k : ℕ) (earlier : Mark) → k < number → slice_get (marks ++ mark ∷ []) k ≡ Some earlier → IsMarkBefore earlier mark
    before k earlier less at = elim (last_or marks mark k earlier at) [
      | inl there ↦ latest earlier (can k earlier there)
      | inr end ↦ absurd (omega (arith, less, last, end.0))
    ]
