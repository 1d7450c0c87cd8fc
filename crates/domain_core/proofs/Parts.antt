-- What a set keeps, as the part of its members that pass.
use Rattle.std.proofs.Common.{◌≡◌, ℕ, ◌+◌, ◌-◌, ◌<◌, ◌≤◌, List, length, get_or, take, drop, ℤ, ◌≤ℤ◌, ◌<ℤ◌, ⊎_elim, refl, sym, ap, ◌∙◌, subst, arith}
use Rattle.std.specs.Prelude.{Contains}
use Rattle.std.specs.List.{AllWithin, between, remove, copy_within}
use lib.Seq.{paste}
use Rattle.std.proofs.lemmas.Bool.{cases_lt}
use Rattle.std.proofs.lemmas.Int.{ints}
use Rattle.std.proofs.lemmas.List.Edits.{take-paste, length-between, get_or-between, length-remove, get_or-remove_below, get_or-remove_above}
use Rattle.std.proofs.lemmas.List.{length-drop}
use Rattle.std.proofs.lemmas.List.Elements.{All-contains, All-contains_itself}
use Rattle.domain_core.specs.Domain.{Set, IsValue, AreAscending, AreMembers}
use Rattle.domain_core.specs.Narrowing.{IsLeft, Keeps, IsPart}
use Rattle.domain_core.specs.declared.Change.TheVariants.{Same, Smaller}
use Rattle.domain_core.proofs.Ascending.{fewer}

module _ (passes : ℤ → Type 0) (old new : List ℤ) (part : IsPart passes old new) where
  pub part_left : IsLeft passes (Set old) (Set new)
  part_left = record {
    within = record { kind = tt; values = λ value has. ((part.items value).0 has).0 };
    kept = λ value has pass. (part.items value).1 (has, pass);
    tested = λ value has. ((part.items value).0 has).1;
  }

  -- a part of a set is a set, where it isn't empty
  pub part_members : AreMembers old → 0 < length new → AreMembers new
  part_members are some = record {
    ascending = part.ascending;
    values = λ k d within. All-contains IsValue old (get_or new k d) are.values ((part.items (get_or new k d)).0 (All-contains_itself new k d within)).0;
    some = some;
    few = omega (arith, are.few, fewer new old part.ascending are.ascending (λ value has. ((part.items value).0 has).0));
  }

  pub part_smaller : 0 < length new → length new < length old → Keeps passes (Set old) Smaller (Set new)
  part_smaller some less = (part_left, omega arith)

  -- where as many are left, each passes
  pub part_same : new ≡ old → Keeps passes (Set old) Same (Set old)
  part_same same = (refl, λ value has. ((part.items value).0 (subst (λ list. Contains list value) (sym same) has)).1)

-- ---- between two numbers

-- the places between which the members from `lo` to `hi` stand
pub record Bounds (members : List ℤ) (lo hi : ℤ) (from end : ℕ) : Type 0 where
  pub bound : end ≤ length members
  pub below : AllWithin (λ member. member <ℤ lo) members 0 from
  pub above_lo : AllWithin (λ member. lo ≤ℤ member) members from (length members)
  pub upto : AllWithin (λ member. member ≤ℤ hi) members 0 end
  pub above : AllWithin (λ member. hi <ℤ member) members end (length members)

module _ (members : List ℤ) (lo hi : ℤ) (from end : ℕ) (ascending : AreAscending members) (bounds : Bounds members lo hi from end) where
  place_between : (k : ℕ) → k < length (between from end members) → from + k < end
  place_between k within = omega (arith, within, length-between members from end bounds.bound)

  pub bounded_part : IsPart (λ value. (lo ≤ℤ value) × (value ≤ℤ hi)) members (between from end members)
  bounded_part = record {
    ascending = λ i j d before within.
        let there = place_between j within in
        let less = ascending (from + i) (from + j) d (omega arith) (omega (arith, there, bounds.bound)) in
        let first = get_or-between members from end i d (omega arith) in
        let second = get_or-between members from end j d there in
        omega (arith, ints, less, first, second);
    items = λ value. (
      λ has.
          let there = place_between has.0 has.1 in
          let at : get_or members (from + has.0) value ≡ value = sym (get_or-between members from end has.0 value there) ∙ has.2 in
          let low = bounds.above_lo (from + has.0) value (omega arith) (omega (arith, there, bounds.bound)) in
          let high = bounds.upto (from + has.0) value (omega arith) there in
          ((from + has.0, omega (arith, there, bounds.bound), at), (omega (arith, ints, low, at), omega (arith, ints, high, at))),
      λ both. stays value both.0 both.1,
    );
  }
    where
      stays : (value : ℤ) → Contains members value → (lo ≤ℤ value) × (value ≤ℤ hi) → Contains (between from end members) value
      stays value has pass =
          ⊎_elim
          (λ less. let low = bounds.below has.0 value (omega arith) less in absurd (omega (arith, ints, low, has.2, pass.0)))
          (λ after.
          ⊎_elim
          (λ before.
          let there : from + (has.0 - from) ≡ has.0 = omega arith in
          let at : get_or (between from end members) (has.0 - from) value ≡ value = get_or-between members from end (has.0 - from) value (omega arith) ∙ ap (λ k. get_or members k value) there ∙ has.2 in
          (has.0 - from, omega (arith, length-between members from end bounds.bound), at))
          (λ past. let high = bounds.above has.0 value past has.1 in absurd (omega (arith, ints, high, has.2, pass.1)))
          (cases_lt has.0 end))
          (cases_lt has.0 from)

-- ---- all but one

module _ (members : List ℤ) (place : ℕ) (value : ℤ) (ascending : AreAscending members) (within : place < length members) (at : (d : ℤ) → get_or members place d ≡ value) where
  below_place : (k : ℕ) (d : ℤ) → k < place → get_or members k d <ℤ value
  below_place k d before = let less = ascending k place d before within in omega (arith, ints, less, at d)

  above_place : (k : ℕ) (d : ℤ) → place < k → k < length members → value <ℤ get_or members k d
  above_place k d after there = let less = ascending place k d after there in omega (arith, ints, less, at d)

  pub length_removed : length (remove members place) + 1 ≡ length members
  length_removed = length-remove members place within

  pub remove_part : IsPart (λ other. other ≡ value → ⊥) members (remove members place)
  remove_part = record {
    ascending = λ i j d before there.
        ⊎_elim
        (λ j_below.
        let less = ascending i j d before (omega arith) in
        let first = get_or-remove_below members place d i (omega arith) within in
        let second = get_or-remove_below members place d j j_below within in
        omega (arith, ints, less, first, second))
        (λ j_above.
        let second = get_or-remove_above members place d j j_above within in
        ⊎_elim
        (λ i_below.
        let less = ascending i (j + 1) d (omega arith) (omega (arith, there, length_removed)) in
        let first = get_or-remove_below members place d i i_below within in
        omega (arith, ints, less, first, second))
        (λ i_above.
        let less = ascending (i + 1) (j + 1) d (omega arith) (omega (arith, there, length_removed)) in
        let first = get_or-remove_above members place d i i_above within in
        omega (arith, ints, less, first, second))
        (cases_lt i place))
        (cases_lt j place);
    items = λ other. (λ has. leaves other has, λ both. stays other both.0 both.1);
  }
    where
      leaves : (other : ℤ) → Contains (remove members place) other → Contains members other × (other ≡ value → ⊥)
      leaves other has =
          ⊎_elim
          (λ before.
          let read : get_or members has.0 other ≡ other = sym (get_or-remove_below members place other has.0 before within) ∙ has.2 in
          let less = below_place has.0 other before in
          ((has.0, omega (arith, has.1, length_removed), read), (λ same. omega (arith, ints, less, read, same))))
          (λ after.
          let read : get_or members (has.0 + 1) other ≡ other = sym (get_or-remove_above members place other has.0 after within) ∙ has.2 in
          let more = above_place (has.0 + 1) other (omega arith) (omega (arith, has.1, length_removed)) in
          ((has.0 + 1, omega (arith, has.1, length_removed), read), (λ same. omega (arith, ints, more, read, same))))
          (cases_lt has.0 place)

      stays : (other : ℤ) → Contains members other → (other ≡ value → ⊥) → Contains (remove members place) other
      stays other has apart =
          ⊎_elim
          (λ before. (has.0, omega (arith, has.1, length_removed), get_or-remove_below members place other has.0 before within ∙ has.2))
          (λ from.
          ⊎_elim
          (λ after.
          let there : has.0 - 1 + 1 ≡ has.0 = omega arith in
          (has.0 - 1, omega (arith, has.1, length_removed), get_or-remove_above members place other (has.0 - 1) (omega arith) within ∙ ap (λ k. get_or members k other) there ∙ has.2))
          (λ here.
          let same : has.0 ≡ place = omega arith in
          absurd (apart (sym has.2 ∙ ap (λ k. get_or members k other) same ∙ at other)))
          (cases_lt place has.0))
          (cases_lt has.0 place)

-- what moved to the front is what lay between
pub moved_front : (xs : List ℤ) (from end : ℕ) → end ≤ length xs → take (end - from) (copy_within xs from end 0) ≡ between from end xs
moved_front xs from end bound =
    let n = end - from in
    let zero_is : n ≡ 0 + n = omega arith in
    ap (λ k. take k (paste xs 0 (drop from xs) n)) zero_is ∙ take-paste xs 0 (drop from xs) n (omega arith) (omega (arith, length-drop from xs))
