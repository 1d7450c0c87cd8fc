-- A number is put in its place among ascending ones.
use Rattle.std.proofs.Common.{◌≡◌, ℕ, suc, zero, ◌+◌, ◌-◌, ◌<◌, ◌≤◌, List, [], ◌∷◌, ◌++◌, length, get_or, set, take, drop, ℤ, ◌<ℤ◌, ◌⊎◌, ⊎_elim, inl, inr, refl, sym, ap, ◌∙◌, subst, append_assoc, arith}
use Rattle.std.specs.Prelude.{Contains, All}
use Rattle.std.specs.List.{AllWithin, insert}
use lib.Seq.{paste}
use Rattle.std.proofs.lemmas.Bool.{cases_lt}
use Rattle.std.proofs.lemmas.Int.{ints}
use Rattle.std.proofs.lemmas.List.{length-take-le, length-drop, take_more_set, drop-take, set-append_left, take-append-drop, take_more}
use Rattle.std.proofs.lemmas.List.Elements.{All-contains, All-contains_itself, Contains-append_left, Contains-push, Contains-push_cases}
use Rattle.std.proofs.Math.Seq.{take-set-lt}
use Rattle.std.proofs.lemmas.List.Edits.{take-paste, length-insert, get_or-insert_below, get_or-insert_at, get_or-insert_above}
use Rattle.domain_core.specs.Domain.{IsValue, AreAscending}
use Rattle.domain_core.specs.Lists.{AreMembersOf, HasTooMany, Inserts, IsFull, AreDistinct}
use Rattle.domain_core.proofs.Searching.{IsBetween}

module _ (xs : List ℤ) (place : ℕ) (value : ℤ) (ascending : AreAscending xs) (bound : place ≤ length xs)
    (below : AllWithin (λ x. x <ℤ value) xs 0 place) (above : AllWithin (λ x. value <ℤ x) xs place (length xs)) where
  long : length (insert xs place value) ≡ length xs + 1
  long = length-insert xs place value bound

  at : (d : ℤ) → get_or (insert xs place value) place d ≡ value
  at d = get_or-insert_at xs place value d bound

  before : (d : ℤ) (k : ℕ) → k < place → get_or (insert xs place value) k d ≡ get_or xs k d
  before d k less = get_or-insert_below xs place value d k less bound

  after : (d : ℤ) (k : ℕ) → place < k → get_or (insert xs place value) k d ≡ get_or xs (k - 1) d
  after d k more = let e : k ≡ k - 1 + 1 = omega arith in ap (λ i. get_or (insert xs place value) i d) e ∙ get_or-insert_above xs place value d (k - 1) (omega arith) bound

  rises : AreAscending (insert xs place value)
  rises = λ i j d less within.
      by_place j
      (λ j_before.
      let p = ascending i j d less (omega arith) in
      omega (arith, ints, p, before d i (omega arith), before d j j_before))
      (λ here.
      let p = below i d (omega arith) (omega arith) in
      let there = ap (λ k. get_or (insert xs place value) k d) here ∙ at d in
      omega (arith, ints, p, before d i (omega arith), there))
      (λ j_after.
      let there = after d j j_after in
      by_place i
      (λ i_before. let p = ascending i (j - 1) d (omega arith) (omega (arith, within, long)) in omega (arith, ints, p, before d i i_before, there))
      (λ here.
      let p = above (j - 1) d (omega arith) (omega (arith, within, long)) in
      let first = ap (λ k. get_or (insert xs place value) k d) here ∙ at d in
      omega (arith, ints, p, first, there))
      (λ i_after. let p = ascending (i - 1) (j - 1) d (omega arith) (omega (arith, within, long)) in omega (arith, ints, p, after d i i_after, there)))
    where
      by_place : {P : Type 0} (k : ℕ) → (k < place → P) → (k ≡ place → P) → (place < k → P) → P
      by_place k f g h = ⊎_elim (λ less. f less) (λ from. ⊎_elim (λ more. h more) (λ upto. g (omega arith)) (cases_lt place k)) (cases_lt k place)

  pub inserts : Inserts xs value (insert xs place value)
  inserts = record {
    ascending = rises;
    items = λ other. (λ has. out other has, λ either. ⊎_elim (λ has. stays other has) (λ same. (place, omega (arith, long, bound), at other ∙ sym same)) either);
  }
    where
      out : (other : ℤ) → Contains (insert xs place value) other → Contains xs other ⊎ (other ≡ value)
      out other has =
          ⊎_elim
          (λ less. inl (has.0, omega arith, sym (before other has.0 less) ∙ has.2))
          (λ from.
          ⊎_elim
          (λ more. inl (has.0 - 1, omega (arith, has.1, long), sym (after other has.0 more) ∙ has.2))
          (λ upto. let here : has.0 ≡ place = omega arith in inr (sym has.2 ∙ ap (λ k. get_or (insert xs place value) k other) here ∙ at other))
          (cases_lt place has.0))
          (cases_lt has.0 place)

      stays : (other : ℤ) → Contains xs other → Contains (insert xs place value) other
      stays other has =
          ⊎_elim
          (λ less. (has.0, omega (arith, has.1, long), before other has.0 less ∙ has.2))
          (λ from. (has.0 + 1, omega (arith, has.1, long), get_or-insert_above xs place value other has.0 from bound ∙ has.2))
          (cases_lt has.0 place)

  -- there it is the longer list
  pub longer : length (insert xs place value) ≡ length xs + 1
  longer = long

-- the numbers from the place on move up by one, and the new number is written there
pub shifted : (room : List ℤ) (count place : ℕ) (value : ℤ) → place ≤ count → count < length room
    → take (count + 1) (set (paste room (place + 1) (drop place room) (count - place)) place value) ≡ insert (take count room) place value
shifted room count place value before free =
    let n = count - place in
    let moved = paste room (place + 1) (drop place room) n in
    let kept = take (place + 1) room in
    let rest = take n (drop place room) in
    let there : count + 1 ≡ place + 1 + n = omega arith in
    let whole : count ≡ place + n = omega arith in
    let in_kept : place < length kept = omega (arith, length-take-le (place + 1) room (omega arith)) in
    take-set-lt (count + 1) moved place value (omega arith)
    ∙ ap (λ list. set list place value) (ap (λ k. take k moved) there ∙ take-paste room (place + 1) (drop place room) n (omega arith) (omega (arith, length-drop place room)))
    ∙ set-append_left kept rest place value in_kept
    ∙ ap (λ list. list ++ rest) (sym (take-set-lt (place + 1) room place value (omega arith)) ∙ take_more_set room place value (omega arith))
    ∙ append_assoc (take place room) (value ∷ []) rest
    ∙ (λ i. sym (take_front room place count before) i ++ value ∷ (sym (drop-take place n room) ∙ ap (λ k. drop place (take k room)) (sym whole)) i)
  where
    take_front : (xs : List ℤ) (k n : ℕ) → k ≤ n → take k (take n xs) ≡ take k xs
    take_front [] zero n le = refl
    take_front [] (suc k) zero le = refl
    take_front [] (suc k) (suc n) le = refl
    take_front (x ∷ xs) zero n le = refl
    take_front (x ∷ xs) (suc k) zero le = absurd (omega arith)
    take_front (x ∷ xs) (suc k) (suc n) le = ap (λ ys. x ∷ ys) (take_front xs k n (omega arith))

-- ---- the distinct numbers of a list, one by one

-- one more number, where there was no room
pub full_from : (xs : List ℤ) (place : ℕ) (value : ℤ) → AreAscending xs → place ≤ length xs → IsBetween xs value place → length xs ≡ 4096 → IsFull xs value
full_from xs place value ascending bound between full = record {
  longer = insert xs place value;
  inserts = inserts xs place value ascending bound between.below between.above;
  many = omega (arith, length-insert xs place value bound, full);
}

-- what stands in the front of a list stands in it
from_front : (values : List ℤ) (i : ℕ) (v : ℤ) → Contains (take i values) v → Contains values v
from_front values i v has = subst (λ list. Contains list v) (take-append-drop i values) (Contains-append_left (take i values) (drop i values) v has)

module _ (values distinct : List ℤ) (i : ℕ) (x : ℤ) (within : i < length values) (x_is : x ≡ get_or values i x) (are : AreDistinct (take i values) distinct) where
  pub too_many : IsFull distinct x → HasTooMany values
  too_many full = record {
    distinct = full.longer;
    ascending = full.inserts.ascending;
    among = λ k d there.
        ⊎_elim
        (λ had. from_front values i _ ((are.same (get_or full.longer k d)).0 had))
        (λ new. (i, within, let e = ap (get_or values i) new in e ∙ sym x_is ∙ sym new))
        ((full.inserts.items (get_or full.longer k d)).0 (All-contains_itself full.longer k d there));
    many = full.many;
  }

  -- one more number, in its place
  pub one_more : (new : List ℤ) → Inserts distinct x new → length new ≤ 4096 → AreDistinct (take (i + 1) values) new
  one_more new in_place few =
      let longer : take (i + 1) values ≡ take i values ++ x ∷ [] = take_more values i x within ∙ ap (λ y. take i values ++ y ∷ []) (sym x_is) in
      record {
        ascending = in_place.ascending;
        same = λ v. (
          λ has.
              subst (λ list. Contains list v) (sym longer)
              (⊎_elim
              (λ had. Contains-append_left (take i values) (x ∷ []) v ((are.same v).0 had))
              (λ is. subst (Contains (take i values ++ x ∷ [])) (sym is) (Contains-push (take i values) x))
              ((in_place.items v).0 has)),
          λ has.
              (in_place.items v).1
              (⊎_elim
              (λ had. inl ((are.same v).1 had))
              (λ is. inr (sym is))
              (Contains-push_cases (take i values) x v (subst (λ list. Contains list v) longer has))),
        );
        few = few;
      }

-- the distinct values of a list that isn't empty are the members of its set
pub members_of : (values distinct : List ℤ) → 0 < length values → All IsValue values → AreDistinct values distinct → AreMembersOf values distinct
members_of [] distinct some all are = absurd (omega arith)
members_of (x ∷ xs) distinct some all are = record {
  are = record {
    ascending = are.ascending;
    values = λ k d within. All-contains IsValue (x ∷ xs) (get_or distinct k d) all ((are.same (get_or distinct k d)).0 (All-contains_itself distinct k d within));
    some = let has = (are.same x).1 (0, omega arith, refl) in omega (arith, has.1);
    few = are.few;
  };
  same = are.same;
}
