-- Tables in the order of one side.
use Rattle.std.proofs.Common.{◌≡◌, ℕ, ◌+◌, ◌<◌, ◌≤◌, Bool, true, false, List, length, get_or, ℤ, ◌≤ℤ◌, ◌<ℤ◌, ⊎_elim, sym, ap, ◌∙◌, subst, arith}
use Rattle.std.specs.Prelude.{Contains, ◌↔◌}
use Rattle.std.specs.List.{AllWithin}
use Rattle.std.specs.List.Sorted.{IsPermutation, IsPartitionedBy, IsSortedByKey}
use Rattle.std.specs.Ordering.{int_cmp, is_lt}
use lib.Signed.{lt_z}
use Rattle.std.proofs.lemmas.Bool.{cases_lt}
use Rattle.std.proofs.lemmas.Cmp.{int_cmp_total}
use Rattle.std.proofs.lemmas.Int.{ints}
use Rattle.std.proofs.lemmas.List.{get_or_default}
use Rattle.std.proofs.lemmas.List.Elements.{AllWithin-more}
use Rattle.std.proofs.lemmas.List.MinMax.{ranks_by}
use Rattle.std.proofs.lemmas.List.Sorted.{sorted_far, Contains-permutation, IsPermutation-sym}
use Rattle.domain_core.specs.Domain.{Domain}
use Rattle.narrow_core.specs.declared.field.FieldEntry.{FieldEntry}
use Rattle.narrow_core.specs.declared.field.Side.{Side}
use Rattle.narrow_core.specs.declared.field.Side.TheVariants.{Object, Value}
use Rattle.narrow_core.specs.Sides.{side_of, Pairs, IsPaired}
use Rattle.narrow_core.specs.Tables.{IsInOrderOf, AreOrders}

-- ---- the order of the values

not_less : (a b : ℤ) → is_lt (int_cmp b a) ≡ false → a ≤ℤ b
not_less a b fails = grind (arith, ints)

pub in_order_from_sorted : (entries : List FieldEntry) → IsSortedByKey (λ entry. entry.value) int_cmp entries → IsInOrderOf Value entries
in_order_from_sorted entries sorted = λ i j d before within.
    not_less _ _ (sorted_far (λ x y. is_lt (int_cmp x.value y.value)) (ranks_by int_cmp_total (λ entry. entry.value)) entries sorted i j d (omega arith) within)

pub are_orders : (by_object by_value : List FieldEntry) → IsInOrderOf Object by_object → IsSortedByKey (λ entry. entry.value) int_cmp by_value → IsPermutation by_object by_value → AreOrders by_object by_value
are_orders by_object by_value objects sorted moved = record {
  objects = objects;
  values = in_order_from_sorted by_value sorted;
  same = λ entry. (Contains-permutation by_value by_object entry (IsPermutation-sym by_object by_value moved), Contains-permutation by_object by_value entry moved);
}

-- ---- bisection

module _ (entries : List FieldEntry) (side : Side) (ordered : IsInOrderOf side entries) where
  pub never_falls : (i j : ℕ) (d : FieldEntry) → i ≤ j → j < length entries → side_of (get_or entries i d) side ≤ℤ side_of (get_or entries j d) side
  never_falls i j d upto within =
      ⊎_elim
      (λ before. ordered i j d before within)
      (λ after. let same : i ≡ j = omega arith in subst (λ k. side_of (get_or entries i d) side ≤ℤ side_of (get_or entries k d) side) same (omega (arith, ints)))
      (cases_lt i j)

  pub less_comes_first : (value : ℤ) → IsPartitionedBy (λ entry. lt_z (side_of entry side) value) entries
  less_comes_first value = λ i j d upto within passes. let up = never_falls i j d upto within in grind (arith, ints)

  pub less_from_test : (value : ℤ) (low high : ℕ) → AllWithin (λ entry. lt_z (side_of entry side) value ≡ true) entries low high → AllWithin (λ entry. side_of entry side <ℤ value) entries low high
  less_from_test value low high all k d from to = let t = all k d from to in grind (arith, ints)

  -- none of the entries before the place is a pair, and the one there has more than the value
  pub none_paired : (other : Domain) (value : ℤ) (place : ℕ) (d : FieldEntry) → place < length entries → AllWithin (λ entry. Pairs entry side other value → ⊥) entries 0 place
      → value <ℤ side_of (get_or entries place d) side → IsPaired entries side other value → ⊥
  none_paired other value place d within none more some =
      let entry = some.0 in
      let k = some.1.0 in
      ⊎_elim
      (λ before. none k entry (omega arith) before (subst (λ e. Pairs e side other value) (sym some.1.2) some.2))
      (λ after.
      let rises = never_falls place k entry after some.1.1 in
      let past = subst (λ e. value <ℤ side_of e side) (get_or_default entries place d entry within) more in
      let is : side_of (get_or entries k entry) side ≡ value = ap (λ e. side_of e side) some.1.2 ∙ some.2.0 in
      absurd (omega (arith, ints, rises, past, is)))
      (cases_lt k place)

  -- none of all entries is a pair
  pub none_of_all : (other : Domain) (value : ℤ) (place : ℕ) → length entries ≤ place → AllWithin (λ entry. Pairs entry side other value → ⊥) entries 0 place → IsPaired entries side other value → ⊥
  none_of_all other value place past none some =
      none some.1.0 some.0 (omega arith) (omega (arith, some.1.1)) (subst (λ e. Pairs e side other value) (sym some.1.2) some.2)

-- the entry at the place is a pair
pub paired_at : (entries : List FieldEntry) (side : Side) (other : Domain) (value : ℤ) (place : ℕ) (d : FieldEntry) → place < length entries → Pairs (get_or entries place d) side other value → IsPaired entries side other value
paired_at entries side other value place d within pairs = (get_or entries place d, (place, within, get_or_default entries place (get_or entries place d) d within), pairs)

-- it isn't
pub none_more : (entries : List FieldEntry) (side : Side) (other : Domain) (value : ℤ) (place : ℕ) (d : FieldEntry) → place < length entries → AllWithin (λ entry. Pairs entry side other value → ⊥) entries 0 place
    → (Pairs (get_or entries place d) side other value → ⊥) → AllWithin (λ entry. Pairs entry side other value → ⊥) entries 0 (place + 1)
none_more entries side other value place d within none fails =
    AllWithin-more (λ entry. Pairs entry side other value → ⊥) entries 0 place none (λ e pairs. fails (subst (λ entry. Pairs entry side other value) (get_or_default entries place e d within) pairs))

-- lists of the same entries pair the same
pub paired_alike : (entries along : List FieldEntry) (side : Side) (other : Domain) (value v : ℤ) → v ≡ value → ((entry : FieldEntry) → Contains along entry ↔ Contains entries entry)
    → (found : Bool) → (found ≡ true) ↔ IsPaired along side other v → (found ≡ true) ↔ IsPaired entries side other value
paired_alike entries along side other value v is same found tells =
    let told = subst (λ z. (found ≡ true) ↔ IsPaired along side other z) is tells in (
      λ found_is. let some = told.0 found_is in (some.0, (same some.0).0 some.1, some.2),
      λ some. told.1 (some.0, (same some.0).1 some.1, some.2),
    )
