-- Sums over places, and of amounts by one of their ends.
use Rattle.std.proofs.Common.{◌≡◌, ◌≢◌, ℕ, suc, zero, ◌+◌, ◌<◌, ℤ, pos, ◌+ℤ◌, ◌-ℤ◌, ◌≤ℤ◌, ◌<ℤ◌, ◌⊎◌, inl, inr, ⊎_elim, Bool, true, false, cond, eqb, List, [], ◌∷◌, length, set, refl, sym, ap, ◌∙◌, add-one, arith}
use Rattle.std.specs.Prelude.{int_lt}
use Rattle.std.specs.List.{filter}
use Rattle.std.proofs.lemmas.Int.{ints, by_lt_z}
use Rattle.std.proofs.lemmas.Bool.{both_ways, cases_eq, eq-eqb, ne_eqb, cond-true, cond-false}
use Rattle.flow_envelope.specs.declared.change.PointChange.{PointChange}
use Rattle.flow_envelope.specs.declared.change.Amount.{Amount}
use Rattle.flow_envelope.specs.Sums.{change_at, sum_below, added_by, sum_by, share, sum_at, sum_from, sum_to}
use Rattle.flow_envelope.specs.Pairs.{pair_at}

-- ---- comparisons

pub compared : (a b : ℤ) → ((int_lt a b ≡ true) × (a <ℤ b)) ⊎ ((int_lt a b ≡ false) × (b ≤ℤ a))
compared a b = by_lt_z a b (λ under. inl (grind (arith, ints), under)) (λ above. inr (grind (arith, ints), above))

pub lt_true : (a b : ℤ) → a <ℤ b → int_lt a b ≡ true
lt_true a b under = ⊎_elim (λ is. is.0) (λ is. let above = is.1 in absurd (omega (arith, ints))) (compared a b)

pub lt_false : (a b : ℤ) → b ≤ℤ a → int_lt a b ≡ false
lt_false a b above = ⊎_elim (λ is. let under = is.1 in absurd (omega (arith, ints))) (λ is. is.0) (compared a b)

pub lt_from : (a b : ℤ) → int_lt a b ≡ true → a <ℤ b
lt_from a b is = ⊎_elim (λ under. under.1) (λ above. absurd (both_ways (int_lt a b) above.0 is)) (compared a b)

pub le_from : (a b : ℤ) → int_lt a b ≡ false → b ≤ℤ a
le_from a b is = ⊎_elim (λ under. absurd (both_ways (int_lt a b) is under.0)) (λ above. above.1) (compared a b)

-- ---- sums over places

pub sum_below-same : (f g : ℕ → ℤ) (n : ℕ) → ((k : ℕ) → k < n → f k ≡ g k) → sum_below f n ≡ sum_below g n
sum_below-same f g zero each = refl
sum_below-same f g (suc n) each =
    let rest = sum_below-same f g n (λ k h. each k (omega arith)) in
    let here = each n (omega arith) in
    omega (arith, ints)

pub sum_below-most : (f g : ℕ → ℤ) (n : ℕ) → ((k : ℕ) → k < n → f k ≤ℤ g k) → sum_below f n ≤ℤ sum_below g n
sum_below-most f g zero each = omega (arith, ints)
sum_below-most f g (suc n) each =
    let rest = sum_below-most f g n (λ k h. each k (omega arith)) in
    let here = each n (omega arith) in
    omega (arith, ints)

pub sum_below-add : (f g h : ℕ → ℤ) (n : ℕ) → ((k : ℕ) → k < n → h k ≡ f k +ℤ g k) → sum_below h n ≡ sum_below f n +ℤ sum_below g n
sum_below-add f g h zero each = refl
sum_below-add f g h (suc n) each =
    let rest = sum_below-add f g h n (λ k le. each k (omega arith)) in
    let here = each n (omega arith) in
    omega (arith, ints)

pub sum_below-both : (f g h i : ℕ → ℤ) (n : ℕ) → ((k : ℕ) → k < n → f k +ℤ g k ≡ h k +ℤ i k) → sum_below f n +ℤ sum_below g n ≡ sum_below h n +ℤ sum_below i n
sum_below-both f g h i zero each = refl
sum_below-both f g h i (suc n) each =
    let rest = sum_below-both f g h i n (λ k le. each k (omega arith)) in
    let here = each n (omega arith) in
    omega (arith, ints)

pub sum_below-none : (f : ℕ → ℤ) (n : ℕ) → ((k : ℕ) → k < n → f k ≡ pos 0) → sum_below f n ≡ pos 0
sum_below-none f zero each = refl
sum_below-none f (suc n) each =
    let rest = sum_below-none f n (λ k h. each k (omega arith)) in
    let here = each n (omega arith) in
    omega (arith, ints)

pub sum_below-one : (f : ℕ → ℤ) (place n : ℕ) → place < n → ((k : ℕ) → k ≢ place → f k ≡ pos 0) → sum_below f n ≡ f place
sum_below-one f place zero h each = absurd (omega arith)
sum_below-one f place (suc n) h each =
    ⊎_elim
    (λ same.
    let rest = sum_below-none f n (λ k le. each k (omega arith)) in
    let here : f n ≡ f place = ap f same in
    omega (arith, ints))
    (λ other.
    let rest = sum_below-one f place n (omega arith) each in
    let here = each n other in
    omega (arith, ints))
    (cases_eq n place)

pub sum_below-next : (f : ℕ → ℤ) (n : ℕ) → sum_below f (n + 1) ≡ sum_below f n +ℤ f n
sum_below-next f n = ap (sum_below f) (add-one n)

-- ---- shares

pub share-same : (end : Amount → ℕ) (amount : Amount) (place : ℕ) → end amount ≡ place → share end amount place ≡ amount.amount
unfolding share
share-same end amount place is = cond-true (eqb (end amount) place) amount.amount (pos 0) (eq-eqb (end amount) place is)

pub share-other : (end : Amount → ℕ) (amount : Amount) (place : ℕ) → (end amount ≡ place → ⊥) → share end amount place ≡ pos 0
unfolding share
share-other end amount place other = cond-false (eqb (end amount) place) amount.amount (pos 0) (ne_eqb (end amount) place other)

pub share-low : (end : Amount → ℕ) (amount : Amount) (place : ℕ) → pos 0 ≤ℤ amount.amount → pos 0 ≤ℤ share end amount place
share-low end amount place low =
    ⊎_elim (λ is. let same = share-same end amount place is in omega (arith, ints)) (λ other. let none = share-other end amount place other in omega (arith, ints)) (cases_eq (end amount) place)

pub share-none : (end : Amount → ℕ) (amount : Amount) (place : ℕ) → amount.amount ≡ pos 0 → share end amount place ≡ pos 0
share-none end amount place none =
    ⊎_elim (λ is. share-same end amount place is ∙ none) (λ other. share-other end amount place other) (cases_eq (end amount) place)

-- ---- sums of amounts

pub sum_at-set : (end : Amount → ℕ) (pairs : List Amount) (k : ℕ) (new : Amount) (place : ℕ) → k < length pairs
    → sum_at end (set pairs k new) place +ℤ share end (pair_at pairs k) place ≡ sum_at end pairs place +ℤ share end new place
sum_at-set end [] k new place h = absurd (omega arith)
sum_at-set end (pair ∷ pairs) zero new place h = omega (arith, ints)
sum_at-set end (pair ∷ pairs) (suc k) new place h =
    let rest = sum_at-set end pairs k new place (omega arith) in
    omega (arith, ints)

pub sum_at-low : (end : Amount → ℕ) (pairs : List Amount) (place : ℕ) → ((k : ℕ) → pos 0 ≤ℤ (pair_at pairs k).amount) → pos 0 ≤ℤ sum_at end pairs place
sum_at-low end [] place each = omega (arith, ints)
sum_at-low end (pair ∷ pairs) place each =
    let here = share-low end pair place (each zero) in
    let rest = sum_at-low end pairs place (λ k. each (suc k)) in
    omega (arith, ints)

pub sum_at-part : (end : Amount → ℕ) (pairs : List Amount) (k place : ℕ) → ((j : ℕ) → pos 0 ≤ℤ (pair_at pairs j).amount) → k < length pairs
    → share end (pair_at pairs k) place ≤ℤ sum_at end pairs place
sum_at-part end [] k place each h = absurd (omega arith)
sum_at-part end (pair ∷ pairs) zero place each h =
    let rest = sum_at-low end pairs place (λ j. each (suc j)) in
    omega (arith, ints)
sum_at-part end (pair ∷ pairs) (suc k) place each h =
    let here = share-low end pair place (each zero) in
    let rest = sum_at-part end pairs k place (λ j. each (suc j)) (omega arith) in
    omega (arith, ints)

pub sum_at-other : (end : Amount → ℕ) (pairs : List Amount) (place : ℕ) → ((k : ℕ) → k < length pairs → end (pair_at pairs k) ≡ place → ⊥) → sum_at end pairs place ≡ pos 0
sum_at-other end [] place each = refl
sum_at-other end (pair ∷ pairs) place each =
    let here = share-other end pair place (each zero (omega arith)) in
    let rest = sum_at-other end pairs place (λ k h. each (suc k) (omega arith)) in
    omega (arith, ints)

pub sum_at-none : (end : Amount → ℕ) (pairs : List Amount) (place : ℕ) → ((k : ℕ) → k < length pairs → (pair_at pairs k).amount ≡ pos 0) → sum_at end pairs place ≡ pos 0
sum_at-none end [] place each = refl
sum_at-none end (pair ∷ pairs) place each =
    let here = share-none end pair place (each zero (omega arith)) in
    let rest = sum_at-none end pairs place (λ k h. each (suc k) (omega arith)) in
    omega (arith, ints)

-- the pair has an amount
abbrev pub has_amount : Amount → Bool
has_amount pair = int_lt (pos 0) pair.amount

pub sum_at-filter : (end : Amount → ℕ) (pairs : List Amount) (place : ℕ) → ((k : ℕ) → pos 0 ≤ℤ (pair_at pairs k).amount) → sum_at end (filter has_amount pairs) place ≡ sum_at end pairs place
sum_at-filter end [] place each = refl
sum_at-filter end (pair ∷ pairs) place each =
    let rest = sum_at-filter end pairs place (λ k. each (suc k)) in
    ⊎_elim
    (λ some.
    let kept = cond-true (int_lt (pos 0) pair.amount) (pair ∷ filter has_amount pairs) (filter has_amount pairs) some.0 in
    let sums : share end pair place +ℤ sum_at end (filter has_amount pairs) place ≡ share end pair place +ℤ sum_at end pairs place = omega (arith, ints) in
    ap (λ (list : List Amount). sum_at end list place) kept ∙ sums)
    (λ none.
    let left = cond-false (int_lt (pos 0) pair.amount) (pair ∷ filter has_amount pairs) (filter has_amount pairs) none.0 in
    let low = each zero in
    let high = none.1 in
    let nothing = share-none end pair place (omega (arith, ints)) in
    let sums : sum_at end (filter has_amount pairs) place ≡ share end pair place +ℤ sum_at end pairs place = omega (arith, ints) in
    ap (λ (list : List Amount). sum_at end list place) left ∙ sums)
    (compared (pos 0) pair.amount)

-- ---- what happens by the instant, and what doesn't

-- the number, or nothing where it is late
abbrev pub kept : Bool → ℤ → ℤ
kept true number = pos 0
kept false number = number

pub kept-none : (late : Bool) → kept late (pos 0) ≡ pos 0
kept-none true = refl
kept-none false = refl

kept-add : (late : Bool) (a b : ℤ) → kept late (a +ℤ b) ≡ kept late a +ℤ kept late b
kept-add true a b = refl
kept-add false a b = refl

kept-parts : (late : Bool) (add gone come : ℤ) → kept late add +ℤ kept late come ≡ kept late ((add -ℤ gone) +ℤ come) +ℤ kept late gone
kept-parts true add gone come = refl
kept-parts false add gone come = omega (arith, ints)

pub kept-most : (one other : Bool) (number : ℤ) → pos 0 ≤ℤ number → (other ≡ true → one ≡ true) → kept one number ≤ℤ kept other number
kept-most true true number low before = omega (arith, ints)
kept-most true false number low before = omega (arith, ints)
kept-most false true number low before = absurd (both_ways false refl (before refl))
kept-most false false number low before = omega (arith, ints)

-- the sum of the amounts whose end isn't late
abbrev pub weighed : (Amount → ℕ) → (ℕ → Bool) → List Amount → ℤ
weighed end late [] = pos 0
weighed end late (pair ∷ pairs) = kept (late (end pair)) pair.amount +ℤ weighed end late pairs

pub weighed-most : (one other : Amount → ℕ) (late : ℕ → Bool) (pairs : List Amount)
    → ((k : ℕ) → k < length pairs → kept (late (one (pair_at pairs k))) (pair_at pairs k).amount ≤ℤ kept (late (other (pair_at pairs k))) (pair_at pairs k).amount)
    → weighed one late pairs ≤ℤ weighed other late pairs
weighed-most one other late [] each = omega (arith, ints)
weighed-most one other late (pair ∷ pairs) each =
    let here = each zero (omega arith) in
    let rest = weighed-most one other late pairs (λ k h. each (suc k) (omega arith)) in
    omega (arith, ints)

pub weighed-same : (one other : Amount → ℕ) (late : ℕ → Bool) (pairs : List Amount)
    → ((k : ℕ) → k < length pairs → kept (late (one (pair_at pairs k))) (pair_at pairs k).amount ≡ kept (late (other (pair_at pairs k))) (pair_at pairs k).amount)
    → weighed one late pairs ≡ weighed other late pairs
weighed-same one other late [] each = refl
weighed-same one other late (pair ∷ pairs) each =
    let here = each zero (omega arith) in
    let rest = weighed-same one other late pairs (λ k h. each (suc k) (omega arith)) in
    omega (arith, ints)

-- the amounts by their places, and one by one
weighed-places : (end : Amount → ℕ) (late : ℕ → Bool) (pairs : List Amount) (n : ℕ) → ((k : ℕ) → k < length pairs → end (pair_at pairs k) < n)
    → sum_below (λ place. kept (late place) (sum_at end pairs place)) n ≡ weighed end late pairs
weighed-places end late [] n each = sum_below-none (λ place. kept (late place) (pos 0)) n (λ k h. kept-none (late k))
weighed-places end late (pair ∷ pairs) n each =
    let rest = weighed-places end late pairs n (λ k h. each (suc k) (omega arith)) in
    let parts = sum_below-add (λ place. kept (late place) (share end pair place)) (λ place. kept (late place) (sum_at end pairs place))
    (λ place. kept (late place) (share end pair place +ℤ sum_at end pairs place)) n (λ k h. kept-add (late k) (share end pair k) (sum_at end pairs k)) in
    let one = sum_below-one (λ place. kept (late place) (share end pair place)) (end pair) n (each zero (omega arith))
    (λ k other. ap (kept (late k)) (share-other end pair k (λ is. other (sym is))) ∙ kept-none (late k)) in
    let here : kept (late (end pair)) (share end pair (end pair)) ≡ kept (late (end pair)) pair.amount = ap (kept (late (end pair))) (share-same end pair (end pair) refl) in
    omega (arith, ints)

-- the change is after the instant
abbrev pub is_late : List PointChange → ℤ → (ℕ → ℤ) → ℕ → Bool
is_late changes at value place = int_lt at (value (change_at changes place).point)

-- what is left of the change at the place
abbrev pub rest_of : List PointChange → List Amount → ℕ → ℤ
rest_of changes pairs place = ((change_at changes place).add -ℤ sum_from pairs place) +ℤ sum_to pairs place

added_kept : (at : ℤ) (value : ℕ → ℤ) (change : PointChange) → added_by at value change ≡ kept (int_lt at (value change.point)) change.add
unfolding added_by
added_kept at value change = cond_kept (int_lt at (value change.point)) change.add
  where
    cond_kept : (late : Bool) (number : ℤ) → cond late (pos 0) number ≡ kept late number
    cond_kept true number = refl
    cond_kept false number = refl

-- the sum, and what comes by the instant, are what is left and what goes by then
pub balanced : (changes : List PointChange) (at : ℤ) (value : ℕ → ℤ) (pairs : List Amount)
    → ((k : ℕ) → k < length pairs → (pair_at pairs k).from < length changes) → ((k : ℕ) → k < length pairs → (pair_at pairs k).to < length changes)
    → sum_by at value changes +ℤ weighed (λ pair. pair.to) (is_late changes at value) pairs
    ≡ sum_below (λ place. kept (is_late changes at value place) (rest_of changes pairs place)) (length changes) +ℤ weighed (λ pair. pair.from) (is_late changes at value) pairs
balanced changes at value pairs from to =
    let late : ℕ → Bool = is_late changes at value in
    let n = length changes in
    let added = sum_below-same (λ place. added_by at value (change_at changes place)) (λ place. kept (late place) (change_at changes place).add) n (λ k h. added_kept at value (change_at changes k)) in
    let gone = weighed-places (λ pair. pair.from) late pairs n from in
    let come = weighed-places (λ pair. pair.to) late pairs n to in
    let all = sum_below-both (λ place. kept (late place) (change_at changes place).add) (λ place. kept (late place) (sum_to pairs place))
    (λ place. kept (late place) (rest_of changes pairs place)) (λ place. kept (late place) (sum_from pairs place)) n
    (λ k h. kept-parts (late k) (change_at changes k).add (sum_from pairs k) (sum_to pairs k)) in
    omega (arith, ints)
