-- Tests, and what says of them whether they come true.
use Rattle.std.proofs.Common.{◌≡◌, ℤ, pos, ◌≤ℤ◌, ◌<ℤ◌, ◌+ℤ◌, Bool, true, false, refl, sym, ◌∙◌, subst, arith}
use Rattle.std.specs.Prelude.{◌↔◌, IsTrue, not}
use lib.Signed.{lt_z, le_z}
use Rattle.std.proofs.lemmas.Int.{ints, by_lt_z}
use Rattle.domain_core.specs.Domain.{Domain, IsDomain, IsTested, Has, HaveCommon, IsSingle, IsBetweenEnds, least, greatest}
use Rattle.domain_core.proofs.Words.{has_least, has_greatest, has_tested, tested_least, tested_greatest, between_ends}
use Rattle.narrow_core.specs.Sweeps.{AllTested}
use Rattle.narrow_core.specs.Truths.{HasBesideOne, PassesTest}
use Rattle.narrow_core.proofs.Bounds.{ends_ordered}
use Rattle.narrow_core.proofs.Values.{same_or_not, IsApart}

-- ---- what a comparison of the code says

pub less_test : (a b x y : ℤ) → a ≡ x → b ≡ y → IsTrue (lt_z a b) ↔ (x <ℤ y)
less_test a b x y a_is b_is = (λ test. let fact = less_yes test in omega (arith, ints, fact, a_is, b_is), λ less. yes_less (omega (arith, ints, less, a_is, b_is)))
  where
    less_yes : IsTrue (lt_z a b) → a <ℤ b
    less_yes test = grind (arith, ints)

    yes_less : a <ℤ b → IsTrue (lt_z a b)
    yes_less less = grind (arith, ints)

pub at_most_test : (a b x y : ℤ) → a ≡ x → b ≡ y → IsTrue (le_z a b) ↔ (x ≤ℤ y)
at_most_test a b x y a_is b_is = (λ test. let fact = le_yes test in omega (arith, ints, fact, a_is, b_is), λ le. yes_le (omega (arith, ints, le, a_is, b_is)))
  where
    le_yes : IsTrue (le_z a b) → a ≤ℤ b
    le_yes test = grind (arith, ints)

    yes_le : a ≤ℤ b → IsTrue (le_z a b)
    yes_le le = grind (arith, ints)

-- ---- values that differ, and values beside 1

abbrev pub Differ : Domain → Domain → Type 0
Differ x y = (v w : ℤ) × Has x v × Has y w × (v ≡ w → ⊥)

pub differ_down : (x y : Domain) → IsDomain x → IsDomain y → greatest y ≤ℤ least x → (least y <ℤ greatest x) ↔ Differ x y
differ_down x y ok y_ok le = (
  λ less. (greatest x, least y, has_greatest x ok, has_least y y_ok, λ e. omega (arith, ints, less, e)),
  λ some.
      let one = between_ends x some.0 ok some.2 in
      let other = between_ends y some.1 y_ok some.3 in
      by_lt_z (least y) (greatest x) (λ less. less) (λ from. absurd (some.4 (omega (arith, ints, from, le, one.0, one.1, other.0, other.1)))),
)

pub beside_up : (domain : Domain) → IsDomain domain → pos 1 ≤ℤ least domain → (pos 1 <ℤ greatest domain) ↔ HasBesideOne domain
beside_up domain ok from = (
  λ more. (greatest domain, has_greatest domain ok, λ e. omega (arith, ints, more, e)),
  λ some.
      let between = between_ends domain some.0 ok some.1 in
      by_lt_z (pos 1) (greatest domain) (λ more. more) (λ upto. absurd (some.2 (omega (arith, ints, upto, from, between.0, between.1)))),
)

pub single_one : (domain : Domain) → IsDomain domain → (HasBesideOne domain → ⊥) → IsSingle domain (pos 1)
single_one domain ok none = record {
  has = same_or_not (least domain) (pos 1) (λ same. subst (Has domain) same (has_least domain ok)) (λ apart. absurd (none (least domain, has_least domain ok, apart)));
  only = λ other has. same_or_not other (pos 1) (λ same. same) (λ apart. absurd (none (other, has, apart)));
}

between_single : (domain : Domain) (value : ℤ) → IsDomain domain → IsSingle domain (pos 1) → IsBetweenEnds domain value → value ≡ pos 1
between_single domain value ok single between =
    let low = single.only (least domain) (has_least domain ok) in
    let high = single.only (greatest domain) (has_greatest domain ok) in
    omega (arith, ints, between.0, between.1, low, high)

-- ---- the first argument of a test

pub equality_outcomes : (x y : Domain) (may_hold may_fail : Bool) (value : ℤ) → IsTrue may_hold ↔ HaveCommon x y → IsTrue may_fail ↔ Differ x y
    → PassesTest may_hold may_fail value ↔ ((w u : ℤ) × Has x w × Has y u × ((value ≡ pos 1) ↔ (w ≡ u)))
equality_outcomes x y may_hold may_fail value hold fail = (
  λ pass.
      same_or_not value (pos 1)
      (λ same. let common = hold.0 (pass.0 same) in (common.0, common.0, common.1, common.2, (λ _. refl, λ _. same)))
      (λ apart. let differ = fail.0 (pass.1 apart) in (differ.0, differ.1, differ.2, differ.3, (λ same. absurd (apart same), λ equal. absurd (differ.4 equal)))),
  λ some. (
    λ same. hold.1 (some.0, some.2, subst (Has y) (sym (some.4.0 same)) some.3),
    λ apart. fail.1 (some.0, some.1, some.2, some.3, λ equal. apart (some.4.1 equal)),
  ),
)

pub order_outcomes : (x y : Domain) (may_hold may_fail : Bool) (value : ℤ) → IsDomain x → IsDomain y → IsTrue may_hold ↔ (least x ≤ℤ greatest y) → IsTrue may_fail ↔ (least y <ℤ greatest x)
    → PassesTest may_hold may_fail value ↔ ((w u : ℤ) × IsBetweenEnds x w × IsBetweenEnds y u × ((value ≡ pos 1) ↔ (w ≤ℤ u)))
order_outcomes x y may_hold may_fail value ok y_ok hold fail = (
  λ pass.
      same_or_not value (pos 1)
      (λ same.
      let le = hold.0 (pass.0 same) in
      (least x, greatest y, (omega (arith, ints), ends_ordered x ok), (ends_ordered y y_ok, omega (arith, ints)), (λ _. le, λ _. same)))
      (λ apart.
      let less = fail.0 (pass.1 apart) in
      (greatest x, least y, (ends_ordered x ok, omega (arith, ints)), (omega (arith, ints), ends_ordered y y_ok), (λ same. absurd (apart same), λ le. absurd (omega (arith, ints, le, less))))),
  λ some. (
    λ same. let le = some.4.0 same in hold.1 (omega (arith, ints, le, some.2.0, some.3.1)),
    λ apart. fail.1 (by_lt_z some.1 some.0 (λ less. omega (arith, ints, less, some.2.1, some.3.0)) (λ le. absurd (apart (some.4.1 le)))),
  ),
)

-- whether the first argument keeps all that has to be supported

module _ (own : Domain) (may_hold may_fail : Bool) where
  pub outcomes_both : may_hold ≡ true → may_fail ≡ true → IsTrue true ↔ AllTested (PassesTest may_hold may_fail) own
  outcomes_both hold fail = (λ _ value tested. (λ _. hold, λ _. fail), λ _. refl)

  one_alone : IsDomain own → may_fail ≡ false → AllTested (PassesTest may_hold may_fail) own → HasBesideOne own → ⊥
  one_alone ok fail all some =
      let is_one = λ (value : ℤ) (tested : IsTested own value). same_or_not value (pos 1) (λ same. same) (λ apart. absurd (let bad = (all value tested).1 apart in cc (bad, fail))) in
      let low = is_one (least own) (tested_least own ok) in
      let high = is_one (greatest own) (tested_greatest own ok) in
      let between = between_ends own some.0 ok some.1 in
      some.2 (omega (arith, ints, low, high, between.0, between.1))

  pub outcomes_hold : (test : Bool) → IsDomain own → may_hold ≡ true → may_fail ≡ false → IsTrue test ↔ HasBesideOne own → IsTrue (not test) ↔ AllTested (PassesTest may_hold may_fail) own
  outcomes_hold true ok hold fail beside = (λ bad. absurd (cc bad), λ all. absurd (one_alone ok fail all (beside.0 refl)))
  outcomes_hold false ok hold fail beside = (
    λ _ value tested. (λ _. hold, λ apart. absurd (let bad = beside.1 (value, has_tested own value ok tested, apart) in cc bad)),
    λ _. refl,
  )

  pub outcomes_fail : (test : Bool) (one : ℤ) → one ≡ pos 1 → may_hold ≡ false → may_fail ≡ true → IsTrue test ↔ IsTested own one → IsTrue (not test) ↔ AllTested (PassesTest may_hold may_fail) own
  outcomes_fail true one is hold fail tests = (λ bad. absurd (cc bad), λ all. absurd (let bad = (all one (tests.0 refl)).0 is in cc (bad, hold)))
  outcomes_fail false one is hold fail tests = (
    λ _ value tested. (λ same. absurd (let bad = tests.1 (subst (IsTested own) (same ∙ sym is) tested) in cc bad), λ _. fail),
    λ _. refl,
  )

  pub outcomes_none : IsDomain own → may_hold ≡ false → may_fail ≡ false → IsTrue false ↔ AllTested (PassesTest may_hold may_fail) own
  outcomes_none ok hold fail = (
    λ bad. absurd (cc bad),
    λ all.
        let passes = all (least own) (tested_least own ok) in
        same_or_not (least own) (pos 1) (λ same. absurd (let bad = passes.0 same in cc (bad, hold))) (λ apart. absurd (let bad = passes.1 apart in cc (bad, fail))),
  )

-- ---- the sides of an equality

abbrev pub EqualSide : Domain → Domain → ℤ → Type 0
EqualSide truth other value = (t w : ℤ) × Has truth t × Has other w × ((t ≡ pos 1) ↔ (value ≡ w))

pub side_holds : (truth other : Domain) (value : ℤ) → IsSingle truth (pos 1) → Has other value ↔ EqualSide truth other value
side_holds truth other value single = (
  λ has. (pos 1, value, single.has, has, (λ _. refl, λ _. refl)),
  λ some. subst (Has other) (sym (some.4.0 (single.only some.0 some.2))) some.3,
)

pub side_fails : (truth other : Domain) (value : ℤ) → IsDomain truth → (Has truth (pos 1) → ⊥) → IsApart other value ↔ EqualSide truth other value
side_fails truth other value ok none =
    let not_one = λ (t : ℤ) (has : Has truth t) (one : t ≡ pos 1). none (subst (Has truth) one has) in (
      λ apart. (least truth, apart.0, has_least truth ok, apart.1, (λ one. absurd (not_one (least truth) (has_least truth ok) one), λ same. absurd (apart.2 same))),
      λ some. (some.1, some.3, λ same. not_one some.0 some.2 (some.4.1 same)),
    )

pub side_open : (truth other : Domain) (value : ℤ) → IsDomain other → Has truth (pos 1) → HasBesideOne truth → EqualSide truth other value
side_open truth other value ok one beside =
    same_or_not value (least other)
    (λ same. (pos 1, least other, one, has_least other ok, (λ _. same, λ _. refl)))
    (λ apart. (beside.0, least other, beside.1, has_least other ok, (λ is_one. absurd (beside.2 is_one), λ same. absurd (apart same))))

pub equal_back : (truth other : Domain) (value : ℤ) → EqualSide truth other value ↔ ((t w : ℤ) × Has truth t × Has other w × ((t ≡ pos 1) ↔ (w ≡ value)))
equal_back truth other value = (
  λ some. (some.0, some.1, some.2, some.3, (λ one. sym (some.4.0 one), λ same. some.4.1 (sym same))),
  λ some. (some.0, some.1, some.2, some.3, (λ one. sym (some.4.0 one), λ same. some.4.1 (sym same))),
)

-- ---- the sides of an order

abbrev pub LowerSide : Domain → Domain → ℤ → Type 0
LowerSide truth upper value = (t w : ℤ) × IsBetweenEnds truth t × IsBetweenEnds upper w × ((t ≡ pos 1) ↔ (value ≤ℤ w))

abbrev pub UpperSide : Domain → Domain → ℤ → Type 0
UpperSide truth lower value = (t w : ℤ) × IsBetweenEnds truth t × IsBetweenEnds lower w × ((t ≡ pos 1) ↔ (w ≤ℤ value))

not_one_between : (truth : Domain) (t : ℤ) → (IsBetweenEnds truth (pos 1) → ⊥) → IsBetweenEnds truth t → t ≡ pos 1 → ⊥
not_one_between truth t none between one = none (omega (arith, ints, between.0, one), omega (arith, ints, between.1, one))

pub lower_holds : (truth upper : Domain) (most value : ℤ) → IsDomain truth → IsDomain upper → IsSingle truth (pos 1) → most ≡ greatest upper → (value ≤ℤ most) ↔ LowerSide truth upper value
lower_holds truth upper most value ok upper_ok single at = (
  λ le. (pos 1, greatest upper, between_ends truth (pos 1) ok single.has, (ends_ordered upper upper_ok, omega (arith, ints)), (λ _. omega (arith, ints, le, at), λ _. refl)),
  λ some. let le = some.4.0 (between_single truth some.0 ok single some.2) in omega (arith, ints, le, some.3.1, at),
)

pub lower_fails : (truth upper : Domain) (from value : ℤ) → IsDomain truth → IsDomain upper → (IsBetweenEnds truth (pos 1) → ⊥) → from ≡ (least upper +ℤ pos 1) → (from ≤ℤ value) ↔ LowerSide truth upper value
lower_fails truth upper from value ok upper_ok none at =
    let ends = between_ends truth (least truth) ok (has_least truth ok) in (
      λ le. (least truth, least upper, ends, (omega (arith, ints), ends_ordered upper upper_ok), (λ one. absurd (not_one_between truth (least truth) none ends one), λ below. absurd (omega (arith, ints, below, le, at)))),
      λ some. by_lt_z some.1 value (λ less. omega (arith, ints, less, some.3.0, at)) (λ below. absurd (not_one_between truth some.0 none some.2 (some.4.1 below))),
    )

pub lower_open : (truth upper : Domain) (value : ℤ) → IsDomain truth → IsDomain upper → IsBetweenEnds truth (pos 1) → HasBesideOne truth → LowerSide truth upper value
lower_open truth upper value ok upper_ok one beside =
    by_lt_z (least upper) value
    (λ less. (beside.0, least upper, between_ends truth beside.0 ok beside.1, (omega (arith, ints), ends_ordered upper upper_ok), (λ is_one. absurd (beside.2 is_one), λ below. absurd (omega (arith, ints, below, less)))))
    (λ le. (pos 1, least upper, one, (omega (arith, ints), ends_ordered upper upper_ok), (λ _. le, λ _. refl)))

pub upper_holds : (truth lower : Domain) (from value : ℤ) → IsDomain truth → IsDomain lower → IsSingle truth (pos 1) → from ≡ least lower → (from ≤ℤ value) ↔ UpperSide truth lower value
upper_holds truth lower from value ok lower_ok single at = (
  λ le. (pos 1, least lower, between_ends truth (pos 1) ok single.has, (omega (arith, ints), ends_ordered lower lower_ok), (λ _. omega (arith, ints, le, at), λ _. refl)),
  λ some. let le = some.4.0 (between_single truth some.0 ok single some.2) in omega (arith, ints, le, some.3.0, at),
)

pub upper_fails : (truth lower : Domain) (most value : ℤ) → IsDomain truth → IsDomain lower → (IsBetweenEnds truth (pos 1) → ⊥) → (most +ℤ pos 1) ≡ greatest lower → (value ≤ℤ most) ↔ UpperSide truth lower value
upper_fails truth lower most value ok lower_ok none at =
    let ends = between_ends truth (least truth) ok (has_least truth ok) in (
      λ le. (least truth, greatest lower, ends, (ends_ordered lower lower_ok, omega (arith, ints)), (λ one. absurd (not_one_between truth (least truth) none ends one), λ above. absurd (omega (arith, ints, above, le, at)))),
      λ some. by_lt_z value some.1 (λ less. omega (arith, ints, less, some.3.1, at)) (λ above. absurd (not_one_between truth some.0 none some.2 (some.4.1 above))),
    )

pub upper_open : (truth lower : Domain) (value : ℤ) → IsDomain truth → IsDomain lower → IsBetweenEnds truth (pos 1) → HasBesideOne truth → UpperSide truth lower value
upper_open truth lower value ok lower_ok one beside =
    by_lt_z value (least lower)
    (λ less. (beside.0, least lower, between_ends truth beside.0 ok beside.1, (omega (arith, ints), ends_ordered lower lower_ok), (λ is_one. absurd (beside.2 is_one), λ above. absurd (omega (arith, ints, above, less)))))
    (λ le. (pos 1, least lower, one, (omega (arith, ints), ends_ordered lower lower_ok), (λ _. le, λ _. refl)))
