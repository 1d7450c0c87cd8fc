-- A domain that has two others, and what is consistent of both is consistent of it.
use Rattle.std.proofs.Common.{◌≡◌, ◌⊎◌, inl, inr, ⊎_elim, ℤ, ◌≤ℤ◌, ◌<ℤ◌, List, [], ◌∷◌, ◌++◌, refl, sym, ap, ◌∙◌, subst, arith}
use Rattle.std.specs.Prelude.{Contains}
use Rattle.std.specs.List.{AllZip}
use Rattle.std.proofs.lemmas.Int.{ints, by_lt_z}
use Rattle.std.proofs.lemmas.List.Elements.{All-contains, Contains-append_left, Contains-append_right, Contains-append_cases}
use Rattle.domain_core.specs.Domain.{Domain, Range, Set, IsDomain, IsValue, IsSingle, IsWithin, IsTested, least, greatest}
use Rattle.domain_core.proofs.Ascending.{fewer}
use Rattle.domain_core.proofs.Words.{has_least, has_tested, tested_least, tested_greatest, single_from_ends}
use Rattle.eu_name.specs.NameOrder.{IsStrictTotalOrder}
use Rattle.domain_core.specs.Consistency.{Reach, Values, Ends, Admits, AreConsistent}
use Rattle.plan_defs.proofs.Lower.{least_rises, greatest_falls}
use Rattle.law_states.proofs.Listing.{in_order}
use Rattle.law_states.proofs.Making.{all_members}

-- ---- a domain that has two others

-- it has both, and each value of it that is tested is one that is tested in one of them
pub record IsHull (one other hull : Domain) : Type 0 where
  pub one_within : IsWithin one hull
  pub other_within : IsWithin other hull
  pub tested : (value : ℤ) → IsTested hull value → IsTested one value ⊎ IsTested other value

-- one that lies in a third
pub record Hull (base one other : Domain) : Type 0 where
  pub hull : Domain
  pub ok : IsDomain hull
  pub within : IsWithin hull base
  pub is : IsHull one other hull

-- the lesser of two numbers
record Lesser (a b : ℤ) : Type 0 where
  number : ℤ
  below_a : number ≤ℤ a
  below_b : number ≤ℤ b
  which : (number ≡ a) ⊎ (number ≡ b)

lesser : (a b : ℤ) → Lesser a b
lesser a b =
    by_lt_z a b
    (λ less. record { number = a; below_a = omega (arith, ints); below_b = omega (arith, ints, less); which = inl refl })
    (λ not_less. record { number = b; below_a = omega (arith, ints, not_less); below_b = omega (arith, ints); which = inr refl })

-- the greater of two
record Greater (a b : ℤ) : Type 0 where
  number : ℤ
  above_a : a ≤ℤ number
  above_b : b ≤ℤ number
  which : (number ≡ a) ⊎ (number ≡ b)

greater : (a b : ℤ) → Greater a b
greater a b =
    by_lt_z a b
    (λ less. record { number = b; above_a = omega (arith, ints, less); above_b = omega (arith, ints); which = inr refl })
    (λ not_less. record { number = a; above_a = omega (arith, ints); above_b = omega (arith, ints, not_less); which = inl refl })

number_order : IsStrictTotalOrder (λ (one later : ℤ). one <ℤ later)
number_order = record {
  irreflexive = λ a less. omega (arith, ints, less);
  transitive = λ a b c p q. omega (arith, ints, p, q);
  total = λ a b. by_lt_z a b (λ less. inl less) (λ not_less. by_lt_z b a (λ more. inr (inr more)) (λ not_more. inr (inl (omega (arith, ints, not_less, not_more)))));
}

range_hull : (low high a b c d : ℤ) → IsDomain (Range low high) → IsDomain (Range a b) → IsDomain (Range c d) → IsWithin (Range a b) (Range low high) → IsWithin (Range c d) (Range low high)
    → Hull (Range low high) (Range a b) (Range c d)
range_hull low high a b c d base_ok one_ok other_ok one_in other_in = by_ends (lesser a c) (greater b d)
  where
    by_ends : Lesser a c → Greater b d → Hull (Range low high) (Range a b) (Range c d)
    by_ends from to =
        let one_low = one_in.values a (omega (arith, ints), one_ok.2) in
        let one_high = one_in.values b (one_ok.2, omega (arith, ints)) in
        let other_low = other_in.values c (omega (arith, ints), other_ok.2) in
        let other_high = other_in.values d (other_ok.2, omega (arith, ints)) in
        let low_in : low ≤ℤ from.number = elim from.which [ inl same ↦ subst (λ n. low ≤ℤ n) (sym same) one_low.0 | inr same ↦ subst (λ n. low ≤ℤ n) (sym same) other_low.0 ] in
        let high_in : to.number ≤ℤ high = elim to.which [ inl same ↦ subst (λ n. n ≤ℤ high) (sym same) one_high.1 | inr same ↦ subst (λ n. n ≤ℤ high) (sym same) other_high.1 ] in
        let a_from = from.below_a in
        let c_from = from.below_b in
        let b_to = to.above_a in
        let d_to = to.above_b in
        let a_b = one_ok.2 in
        let ends : from.number ≤ℤ to.number = omega (arith, ints, a_from, b_to, a_b) in
        let is_from : IsValue from.number = elim from.which [ inl same ↦ subst IsValue (sym same) one_ok.0 | inr same ↦ subst IsValue (sym same) other_ok.0 ] in
        let is_to : IsValue to.number = elim to.which [ inl same ↦ subst IsValue (sym same) one_ok.1 | inr same ↦ subst IsValue (sym same) other_ok.1 ] in
        record {
          hull = Range from.number to.number;
          ok = (is_from, is_to, ends);
          within = record { kind = tt; values = λ value has. (omega (arith, ints, has.0, low_in), omega (arith, ints, has.1, high_in)) };
          is = record {
            one_within = record { kind = tt; values = λ value has. (omega (arith, ints, has.0, a_from), omega (arith, ints, has.1, b_to)) };
            other_within = record { kind = tt; values = λ value has. (omega (arith, ints, has.0, c_from), omega (arith, ints, has.1, d_to)) };
            tested = λ value tested. by_tested value from to tested;
          };
        }
      where
        by_tested : (value : ℤ) → (from : Lesser a c) → (to : Greater b d) → IsTested (Range from.number to.number) value → IsTested (Range a b) value ⊎ IsTested (Range c d) value
        by_tested value from to (inl at_low) = elim from.which [ inl same ↦ inl (inl (at_low ∙ same)) | inr same ↦ inr (inl (at_low ∙ same)) ]
        by_tested value from to (inr at_high) = elim to.which [ inl same ↦ inl (inr (at_high ∙ same)) | inr same ↦ inr (inr (at_high ∙ same)) ]

set_hull : (members xs ys : List ℤ) → IsDomain (Set members) → IsDomain (Set xs) → IsDomain (Set ys) → IsWithin (Set xs) (Set members) → IsWithin (Set ys) (Set members) → Hull (Set members) (Set xs) (Set ys)
set_hull members xs ys base_ok one_ok other_ok one_in other_in =
    let all = in_order (λ (one later : ℤ). one <ℤ later) number_order (xs ++ ys) in
    let inside : (value : ℤ) → Contains all.list value → Contains members value =
    λ value there. ⊎_elim (one_in.values value) (other_in.values value) (Contains-append_cases xs ys value ((all.are value).0 there)) in
    let first = (all.are (least (Set xs))).1 (Contains-append_left xs ys (least (Set xs)) (has_least (Set xs) one_ok)) in
    let few = fewer all.list members all.order base_ok.ascending inside in
    record {
      hull = Set all.list;
      ok = record {
        ascending = all.order;
        values = all_members IsValue all.list (λ value there. All-contains IsValue members value base_ok.values (inside value there));
        some = omega (arith, first.1);
        few = omega (arith, few, base_ok.few);
      };
      within = record { kind = tt; values = inside };
      is = record {
        one_within = record { kind = tt; values = λ value there. (all.are value).1 (Contains-append_left xs ys value there) };
        other_within = record { kind = tt; values = λ value there. (all.are value).1 (Contains-append_right xs ys value there) };
        tested = λ value there. Contains-append_cases xs ys value ((all.are value).0 there);
      };
    }

pub hull_of : (base one other : Domain) → IsDomain base → IsDomain one → IsDomain other → IsWithin one base → IsWithin other base → Hull base one other
hull_of (Range low high) (Range a b) (Range c d) base_ok one_ok other_ok one_in other_in = range_hull low high a b c d base_ok one_ok other_ok one_in other_in
hull_of (Set members) (Set xs) (Set ys) base_ok one_ok other_ok one_in other_in = set_hull members xs ys base_ok one_ok other_ok one_in other_in
hull_of (Range low high) (Set xs) other base_ok one_ok other_ok one_in other_in = absurd one_in.kind
hull_of (Range low high) (Range a b) (Set ys) base_ok one_ok other_ok one_in other_in = absurd other_in.kind
hull_of (Set members) (Range a b) other base_ok one_ok other_ok one_in other_in = absurd one_in.kind
hull_of (Set members) (Set xs) (Range c d) base_ok one_ok other_ok one_in other_in = absurd other_in.kind

-- of two that have one value alone it has no other
pub single_hull : (one other hull : Domain) (value : ℤ) → IsHull one other hull → IsDomain one → IsDomain other → IsDomain hull
    → IsSingle one value → IsSingle other value → IsSingle hull value
single_hull one other hull value is one_ok other_ok ok one_single other_single =
    let low = at (least hull) (tested_least hull ok) in
    let high = at (greatest hull) (tested_greatest hull ok) in
    subst (IsSingle hull) low (single_from_ends hull ok (low ∙ sym high))
  where
    at : (end : ℤ) → IsTested hull end → end ≡ value
    at end tested = elim (is.tested end tested) [
      | inl in_one ↦ one_single.only end (has_tested one end one_ok in_one)
      | inr in_other ↦ other_single.only end (has_tested other end other_ok in_other)
    ]

-- ---- what is consistent of both

-- it admits what the two admit, and each value of it that is tested is one that is tested in one of them
pub record Covers (one other hull : Domain) : Type 0 where
  pub one_admits : (reach : Reach) (value : ℤ) → Admits reach one value → Admits reach hull value
  pub other_admits : (reach : Reach) (value : ℤ) → Admits reach other value → Admits reach hull value
  pub tested : (value : ℤ) → IsTested hull value → IsTested one value ⊎ IsTested other value

admits_within : (inner outer : Domain) → IsDomain inner → IsDomain outer → IsWithin inner outer → (reach : Reach) (value : ℤ) → Admits reach inner value → Admits reach outer value
admits_within inner outer inner_ok outer_ok within Values value has = within.values value has
admits_within inner outer inner_ok outer_ok within Ends value between =
    let low = least_rises inner outer inner_ok outer_ok within in
    let high = greatest_falls inner outer inner_ok outer_ok within in
    (omega (arith, ints, between.0, low), omega (arith, ints, between.1, high))

pub hull_covers : (one other hull : Domain) → IsHull one other hull → IsDomain one → IsDomain other → IsDomain hull → Covers one other hull
hull_covers one other hull is one_ok other_ok ok = record {
  one_admits = admits_within one hull one_ok ok is.one_within;
  other_admits = admits_within other hull other_ok ok is.other_within;
  tested = is.tested;
}

pub same_covers : (domain : Domain) → Covers domain domain domain
same_covers domain = record { one_admits = λ reach value admits. admits; other_admits = λ reach value admits. admits; tested = λ value tested. inl tested }

-- each of the third list covers those of the other two in its place
abbrev pub AllCover : List Domain → List Domain → List Domain → Type 0
AllCover [] [] [] = Unit {0}
AllCover (one ∷ ones) (other ∷ others) (hull ∷ hulls) = Covers one other hull × AllCover ones others hulls
AllCover ones others hulls = ⊥

-- the two lists split where the third is
record Parts (ones others before : List Domain) (hull : Domain) (after : List Domain) : Type 0 where
  ones_before : List Domain
  one : Domain
  ones_after : List Domain
  others_before : List Domain
  other : Domain
  others_after : List Domain
  ones_are : ones ≡ ones_before ++ one ∷ ones_after
  others_are : others ≡ others_before ++ other ∷ others_after
  befores : AllCover ones_before others_before before
  here : Covers one other hull
  afters : AllCover ones_after others_after after

parts : (ones others before : List Domain) (hull : Domain) (after : List Domain) → AllCover ones others (before ++ hull ∷ after) → Parts ones others before hull after
parts (one ∷ ones) (other ∷ others) [] hull after all = record {
  ones_before = [];
  one = one;
  ones_after = ones;
  others_before = [];
  other = other;
  others_after = others;
  ones_are = refl;
  others_are = refl;
  befores = tt;
  here = all.0;
  afters = all.1;
}
parts (one ∷ ones) (other ∷ others) (first ∷ before) hull after all =
    let rest = parts ones others before hull after all.1 in
    record {
      ones_before = one ∷ rest.ones_before;
      one = rest.one;
      ones_after = rest.ones_after;
      others_before = other ∷ rest.others_before;
      other = rest.other;
      others_after = rest.others_after;
      ones_are = ap (λ (l : List Domain). one ∷ l) rest.ones_are;
      others_are = ap (λ (l : List Domain). other ∷ l) rest.others_are;
      befores = (all.0, rest.befores);
      here = rest.here;
      afters = rest.afters;
    }
parts [] [] [] hull after all = absurd all
parts [] [] (first ∷ before) hull after all = absurd all
parts [] (other ∷ others) [] hull after all = absurd all
parts [] (other ∷ others) (first ∷ before) hull after all = absurd all
parts (one ∷ ones) [] [] hull after all = absurd all
parts (one ∷ ones) [] (first ∷ before) hull after all = absurd all

ones_admitted : (reach : Reach) (ones others hulls : List Domain) (values : List ℤ) → AllCover ones others hulls → AllZip (Admits reach) ones values → AllZip (Admits reach) hulls values
ones_admitted reach [] [] [] [] all admit = tt
ones_admitted reach (one ∷ ones) (other ∷ others) (hull ∷ hulls) (value ∷ values) all admit =
    (all.0.one_admits reach value admit.0, ones_admitted reach ones others hulls values all.1 admit.1)
ones_admitted reach [] [] [] (value ∷ values) all admit = absurd admit
ones_admitted reach (one ∷ ones) (other ∷ others) (hull ∷ hulls) [] all admit = absurd admit
ones_admitted reach [] [] (hull ∷ hulls) values all admit = absurd all
ones_admitted reach [] (other ∷ others) hulls values all admit = absurd all
ones_admitted reach (one ∷ ones) [] hulls values all admit = absurd all
ones_admitted reach (one ∷ ones) (other ∷ others) [] values all admit = absurd all

others_admitted : (reach : Reach) (ones others hulls : List Domain) (values : List ℤ) → AllCover ones others hulls → AllZip (Admits reach) others values → AllZip (Admits reach) hulls values
others_admitted reach [] [] [] [] all admit = tt
others_admitted reach (one ∷ ones) (other ∷ others) (hull ∷ hulls) (value ∷ values) all admit =
    (all.0.other_admits reach value admit.0, others_admitted reach ones others hulls values all.1 admit.1)
others_admitted reach [] [] [] (value ∷ values) all admit = absurd admit
others_admitted reach (one ∷ ones) (other ∷ others) (hull ∷ hulls) [] all admit = absurd admit
others_admitted reach [] [] (hull ∷ hulls) values all admit = absurd all
others_admitted reach [] (other ∷ others) hulls values all admit = absurd all
others_admitted reach (one ∷ ones) [] hulls values all admit = absurd all
others_admitted reach (one ∷ ones) (other ∷ others) [] values all admit = absurd all

-- what two lists of domains are consistent for, those that cover them are consistent for
pub covered_consistent : (reach : Reach) (holds : List ℤ → Type 0) (ones others hulls : List Domain) → AllCover ones others hulls
    → AreConsistent reach holds ones → AreConsistent reach holds others → AreConsistent reach holds hulls
covered_consistent reach holds ones others hulls all one_fit other_fit before hull after value are tested =
    let split = parts ones others before hull after (subst (AllCover ones others) are all) in
    elim (split.here.tested value tested) [
      | inl in_one ↦
          let found = one_fit split.ones_before split.one split.ones_after value split.ones_are in_one in (
            found.0,
            found.1,
            ones_admitted reach split.ones_before split.others_before before found.0 split.befores found.2,
            ones_admitted reach split.ones_after split.others_after after found.1 split.afters found.3,
            found.4,
          )
      | inr in_other ↦
          let found = other_fit split.others_before split.other split.others_after value split.others_are in_other in (
            found.0,
            found.1,
            others_admitted reach split.ones_before split.others_before before found.0 split.befores found.2,
            others_admitted reach split.ones_after split.others_after after found.1 split.afters found.3,
            found.4,
          )
    ]
