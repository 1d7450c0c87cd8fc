-- What supports a value of an argument, with one or two other arguments.
use Rattle.std.proofs.Common.{◌≡◌, ℤ, List, [], ◌∷◌, length, get_or, true, false, refl, sym, subst}
use Rattle.std.specs.Prelude.{◌↔◌, map, Bool, IsTrue, MatchBool, not}
use denote.Bor.{Bor}
use Rattle.domain_core.specs.Domain.{Domain, IsDomain, IsTested, Has}
use Rattle.domain_core.specs.Narrowing.{Keeps}
use Rattle.domain_core.specs.declared.Change.{Change}
use Rattle.domain_core.specs.declared.Change.TheVariants.{Same, Smaller, Empty}
use Rattle.domain_core.specs.Consistency.{Reach, Admits, IsSupported}
use Rattle.domain_core.proofs.Words.{has_tested}
use Rattle.narrow_core.specs.Sweeps.{AllTested}
use Rattle.narrow_core.proofs.Places.{none_of, one_of, two_of}

-- ---- where the same values pass, the same is kept

pub keeps_among : (passes others : ℤ → Type 0) (old new : Domain) (change : Change) → IsDomain old → IsDomain new
    → ((value : ℤ) → Has old value → passes value ↔ others value) → Keeps passes old change new → Keeps others old change new
keeps_among passes others old new Same ok nok alike keeps = (keeps.0, λ value tested. (alike value (has_tested old value ok tested)).0 (keeps.1 value tested))
keeps_among passes others old new Smaller ok nok alike keeps = (
  record {
    within = keeps.0.within;
    kept = λ value has pass. keeps.0.kept value has ((alike value has).1 pass);
    tested = λ value tested. (alike value (keeps.0.within.values value (has_tested new value nok tested))).0 (keeps.0.tested value tested);
  },
  keeps.1,
)
keeps_among passes others old new Empty ok nok alike keeps = (keeps.0, λ value has pass. keeps.1 value has ((alike value has).1 pass))

pub keeps_along : (passes others : ℤ → Type 0) (old new : Domain) (change : Change) → ((value : ℤ) → passes value ↔ others value) → Keeps passes old change new → Keeps others old change new
keeps_along passes others old new Same alike keeps = (keeps.0, λ value tested. (alike value).0 (keeps.1 value tested))
keeps_along passes others old new Smaller alike keeps = (
  record {
    within = keeps.0.within;
    kept = λ value has pass. keeps.0.kept value has ((alike value).1 pass);
    tested = λ value tested. (alike value).0 (keeps.0.tested value tested);
  },
  keeps.1,
)
keeps_along passes others old new Empty alike keeps = (keeps.0, λ value has pass. keeps.1 value has ((alike value).1 pass))

-- and the same tests answer
pub tests_along : (passes others : ℤ → Type 0) (own : Domain) (test : Bool) → ((value : ℤ) → passes value ↔ others value) → IsTrue test ↔ AllTested passes own → IsTrue test ↔ AllTested others own
tests_along passes others own test alike tests = (
  λ true value tested. (alike value).0 (tests.0 true value tested),
  λ all. tests.1 (λ value tested. (alike value).1 (all value tested)),
)

-- a test that was asked of each tested value
pub tests_all : (passed failed passes : ℤ → Type 0) (own : Domain) (test : Bool) → ((value : ℤ) → passed value → passes value) → ((value : ℤ) → failed value → passes value → ⊥)
    → MatchBool test (AllTested passed own) ((value : ℤ) × IsTested own value × failed value) → IsTrue test ↔ AllTested passes own
tests_all passed failed passes own true good bad found = (λ _ value tested. good value (found value tested), λ _. refl)
tests_all passed failed passes own false good bad found = (λ never. absurd (cc never), λ all. absurd (bad found.0 found.2 (all found.0 found.1)))

-- a value that may not be among the tested ones
pub tests_none : (own : Domain) (x : ℤ) (test : Bool) → IsTrue test ↔ IsTested own x → IsTrue (not test) ↔ AllTested (λ value. value ≡ x → ⊥) own
tests_none own x true is = (λ bad. absurd (cc bad), λ all. absurd (all x (is.0 refl) refl))
tests_none own x false is = (λ _ value tested same. absurd (let bad = is.1 (subst (IsTested own) same tested) in cc bad), λ _. refl)

-- what references lead to
abbrev pub led_to : List (Bor Domain) → List Domain
led_to others = map (λ other. other.now) others

module _ (reach : Reach) (holds : List ℤ → Type 0) where
  -- ---- one other argument

  -- some value of the other makes the constraint hold, as second or as first value
  abbrev pub HoldsBefore : Domain → ℤ → Type 0
  HoldsBefore y value = (w : ℤ) × Admits reach y w × holds (value ∷ w ∷ [])

  abbrev pub HoldsBehind : Domain → ℤ → Type 0
  HoldsBehind x value = (w : ℤ) × Admits reach x w × holds (w ∷ value ∷ [])

  pub first_of_two : (y : Domain) (value : ℤ) → IsSupported reach holds [] value (y ∷ []) → HoldsBefore y value
  first_of_two y value ([], w ∷ [], none, admit, holding) = (w, admit.0, holding)
  first_of_two y value ([], [], none, admit, holding) = absurd admit
  first_of_two y value ([], w ∷ u ∷ right, none, admit, holding) = absurd admit.1
  first_of_two y value (other ∷ left, right, none, admit, holding) = absurd none

  pub second_of_two : (x : Domain) (value : ℤ) → IsSupported reach holds (x ∷ []) value [] → HoldsBehind x value
  second_of_two x value (w ∷ [], [], admit, none, holding) = (w, admit.0, holding)
  second_of_two x value ([], right, admit, none, holding) = absurd admit
  second_of_two x value (w ∷ u ∷ left, right, admit, none, holding) = absurd admit.1
  second_of_two x value (w ∷ [], other ∷ right, admit, none, holding) = absurd none

  as_first_of_two : (passes : ℤ → Type 0) (before after : List (Bor Domain)) (y : Bor Domain)
      → length before ≡ 0 → length after ≡ 1 → y ≡ get_or after 0 y → ((value : ℤ) → passes value ↔ HoldsBefore y.now value)
      → (value : ℤ) → passes value ↔ IsSupported reach holds (led_to before) value (led_to after)
  as_first_of_two passes before after y front back at alike value =
      subst (λ list. passes value ↔ IsSupported reach holds (led_to list) value (led_to after)) (sym (none_of before front))
      (subst (λ list. passes value ↔ IsSupported reach holds (led_to ([])) value (led_to list)) (sym (one_of after y back at)) (
        λ pass. let w = (alike value).0 pass in ([], w.0 ∷ [], tt, (w.1, tt), w.2),
        λ supported. (alike value).1 (first_of_two y.now value supported),
      ))

  pub keeps_first_of_two : (passes : ℤ → Type 0) (before after : List (Bor Domain)) (y : Bor Domain) (old new : Domain) (change : Change)
      → length before ≡ 0 → length after ≡ 1 → y ≡ get_or after 0 y → ((value : ℤ) → passes value ↔ HoldsBefore y.now value)
      → Keeps passes old change new → Keeps (λ value. IsSupported reach holds (led_to before) value (led_to after)) old change new
  keeps_first_of_two passes before after y old new change front back at alike keeps =
      keeps_along passes (λ value. IsSupported reach holds (led_to before) value (led_to after)) old new change (as_first_of_two passes before after y front back at alike) keeps

  pub tests_first_of_two : (passes : ℤ → Type 0) (before after : List (Bor Domain)) (y : Bor Domain) (own : Domain) (test : Bool)
      → length before ≡ 0 → length after ≡ 1 → y ≡ get_or after 0 y → ((value : ℤ) → passes value ↔ HoldsBefore y.now value)
      → IsTrue test ↔ AllTested passes own → IsTrue test ↔ AllTested (λ value. IsSupported reach holds (led_to before) value (led_to after)) own
  tests_first_of_two passes before after y own test front back at alike tests =
      tests_along passes (λ value. IsSupported reach holds (led_to before) value (led_to after)) own test (as_first_of_two passes before after y front back at alike) tests

  as_second_of_two : (passes : ℤ → Type 0) (before after : List (Bor Domain)) (x : Bor Domain)
      → length before ≡ 1 → length after ≡ 0 → x ≡ get_or before 0 x → ((value : ℤ) → passes value ↔ HoldsBehind x.now value)
      → (value : ℤ) → passes value ↔ IsSupported reach holds (led_to before) value (led_to after)
  as_second_of_two passes before after x front back at alike value =
      subst (λ list. passes value ↔ IsSupported reach holds (led_to list) value (led_to after)) (sym (one_of before x front at))
      (subst (λ list. passes value ↔ IsSupported reach holds (led_to (x ∷ [])) value (led_to list)) (sym (none_of after back)) (
        λ pass. let w = (alike value).0 pass in (w.0 ∷ [], [], (w.1, tt), tt, w.2),
        λ supported. (alike value).1 (second_of_two x.now value supported),
      ))

  pub keeps_second_of_two : (passes : ℤ → Type 0) (before after : List (Bor Domain)) (x : Bor Domain) (old new : Domain) (change : Change)
      → length before ≡ 1 → length after ≡ 0 → x ≡ get_or before 0 x → ((value : ℤ) → passes value ↔ HoldsBehind x.now value)
      → Keeps passes old change new → Keeps (λ value. IsSupported reach holds (led_to before) value (led_to after)) old change new
  keeps_second_of_two passes before after x old new change front back at alike keeps =
      keeps_along passes (λ value. IsSupported reach holds (led_to before) value (led_to after)) old new change (as_second_of_two passes before after x front back at alike) keeps

  pub tests_second_of_two : (passes : ℤ → Type 0) (before after : List (Bor Domain)) (x : Bor Domain) (own : Domain) (test : Bool)
      → length before ≡ 1 → length after ≡ 0 → x ≡ get_or before 0 x → ((value : ℤ) → passes value ↔ HoldsBehind x.now value)
      → IsTrue test ↔ AllTested passes own → IsTrue test ↔ AllTested (λ value. IsSupported reach holds (led_to before) value (led_to after)) own
  tests_second_of_two passes before after x own test front back at alike tests =
      tests_along passes (λ value. IsSupported reach holds (led_to before) value (led_to after)) own test (as_second_of_two passes before after x front back at alike) tests

  -- ---- two other arguments

  abbrev pub HoldsAsFirst : Domain → Domain → ℤ → Type 0
  HoldsAsFirst y z value = (w u : ℤ) × Admits reach y w × Admits reach z u × holds (value ∷ w ∷ u ∷ [])

  abbrev pub HoldsAsSecond : Domain → Domain → ℤ → Type 0
  HoldsAsSecond x z value = (w u : ℤ) × Admits reach x w × Admits reach z u × holds (w ∷ value ∷ u ∷ [])

  abbrev pub HoldsAsThird : Domain → Domain → ℤ → Type 0
  HoldsAsThird x y value = (w u : ℤ) × Admits reach x w × Admits reach y u × holds (w ∷ u ∷ value ∷ [])

  pub first_of_three : (y z : Domain) (value : ℤ) → IsSupported reach holds [] value (y ∷ z ∷ []) → HoldsAsFirst y z value
  first_of_three y z value ([], w ∷ u ∷ [], none, admit, holding) = (w, u, admit.0, admit.1.0, holding)
  first_of_three y z value ([], [], none, admit, holding) = absurd admit
  first_of_three y z value ([], w ∷ [], none, admit, holding) = absurd admit.1
  first_of_three y z value ([], w ∷ u ∷ t ∷ right, none, admit, holding) = absurd admit.1.1
  first_of_three y z value (other ∷ left, right, none, admit, holding) = absurd none

  pub second_of_three : (x z : Domain) (value : ℤ) → IsSupported reach holds (x ∷ []) value (z ∷ []) → HoldsAsSecond x z value
  second_of_three x z value (w ∷ [], u ∷ [], first, third, holding) = (w, u, first.0, third.0, holding)
  second_of_three x z value ([], right, first, third, holding) = absurd first
  second_of_three x z value (w ∷ t ∷ left, right, first, third, holding) = absurd first.1
  second_of_three x z value (w ∷ [], [], first, third, holding) = absurd third
  second_of_three x z value (w ∷ [], u ∷ t ∷ right, first, third, holding) = absurd third.1

  pub third_of_three : (x y : Domain) (value : ℤ) → IsSupported reach holds (x ∷ y ∷ []) value [] → HoldsAsThird x y value
  third_of_three x y value (w ∷ u ∷ [], [], admit, none, holding) = (w, u, admit.0, admit.1.0, holding)
  third_of_three x y value ([], right, admit, none, holding) = absurd admit
  third_of_three x y value (w ∷ [], right, admit, none, holding) = absurd admit.1
  third_of_three x y value (w ∷ u ∷ t ∷ left, right, admit, none, holding) = absurd admit.1.1
  third_of_three x y value (w ∷ u ∷ [], other ∷ right, admit, none, holding) = absurd none

  as_first_of_three : (passes : ℤ → Type 0) (before after : List (Bor Domain)) (y z : Bor Domain)
      → length before ≡ 0 → length after ≡ 2 → y ≡ get_or after 0 y → z ≡ get_or after 1 z → ((value : ℤ) → passes value ↔ HoldsAsFirst y.now z.now value)
      → (value : ℤ) → passes value ↔ IsSupported reach holds (led_to before) value (led_to after)
  as_first_of_three passes before after y z front back at then alike value =
      subst (λ list. passes value ↔ IsSupported reach holds (led_to list) value (led_to after)) (sym (none_of before front))
      (subst (λ list. passes value ↔ IsSupported reach holds (led_to ([])) value (led_to list)) (sym (two_of after y z back at then)) (
        λ pass. let w = (alike value).0 pass in ([], w.0 ∷ w.1 ∷ [], tt, (w.2, (w.3, tt)), w.4),
        λ supported. (alike value).1 (first_of_three y.now z.now value supported),
      ))

  pub keeps_first_of_three : (passes : ℤ → Type 0) (before after : List (Bor Domain)) (y z : Bor Domain) (old new : Domain) (change : Change)
      → length before ≡ 0 → length after ≡ 2 → y ≡ get_or after 0 y → z ≡ get_or after 1 z → ((value : ℤ) → passes value ↔ HoldsAsFirst y.now z.now value)
      → Keeps passes old change new → Keeps (λ value. IsSupported reach holds (led_to before) value (led_to after)) old change new
  keeps_first_of_three passes before after y z old new change front back at then alike keeps =
      keeps_along passes (λ value. IsSupported reach holds (led_to before) value (led_to after)) old new change (as_first_of_three passes before after y z front back at then alike) keeps

  pub tests_first_of_three : (passes : ℤ → Type 0) (before after : List (Bor Domain)) (y z : Bor Domain) (own : Domain) (test : Bool)
      → length before ≡ 0 → length after ≡ 2 → y ≡ get_or after 0 y → z ≡ get_or after 1 z → ((value : ℤ) → passes value ↔ HoldsAsFirst y.now z.now value)
      → IsTrue test ↔ AllTested passes own → IsTrue test ↔ AllTested (λ value. IsSupported reach holds (led_to before) value (led_to after)) own
  tests_first_of_three passes before after y z own test front back at then alike tests =
      tests_along passes (λ value. IsSupported reach holds (led_to before) value (led_to after)) own test (as_first_of_three passes before after y z front back at then alike) tests

  as_second_of_three : (passes : ℤ → Type 0) (before after : List (Bor Domain)) (x z : Bor Domain)
      → length before ≡ 1 → length after ≡ 1 → x ≡ get_or before 0 x → z ≡ get_or after 0 z → ((value : ℤ) → passes value ↔ HoldsAsSecond x.now z.now value)
      → (value : ℤ) → passes value ↔ IsSupported reach holds (led_to before) value (led_to after)
  as_second_of_three passes before after x z front back at then alike value =
      subst (λ list. passes value ↔ IsSupported reach holds (led_to list) value (led_to after)) (sym (one_of before x front at))
      (subst (λ list. passes value ↔ IsSupported reach holds (led_to (x ∷ [])) value (led_to list)) (sym (one_of after z back then)) (
        λ pass. let w = (alike value).0 pass in (w.0 ∷ [], w.1 ∷ [], (w.2, tt), (w.3, tt), w.4),
        λ supported. (alike value).1 (second_of_three x.now z.now value supported),
      ))

  pub keeps_second_of_three : (passes : ℤ → Type 0) (before after : List (Bor Domain)) (x z : Bor Domain) (old new : Domain) (change : Change)
      → length before ≡ 1 → length after ≡ 1 → x ≡ get_or before 0 x → z ≡ get_or after 0 z → ((value : ℤ) → passes value ↔ HoldsAsSecond x.now z.now value)
      → Keeps passes old change new → Keeps (λ value. IsSupported reach holds (led_to before) value (led_to after)) old change new
  keeps_second_of_three passes before after x z old new change front back at then alike keeps =
      keeps_along passes (λ value. IsSupported reach holds (led_to before) value (led_to after)) old new change (as_second_of_three passes before after x z front back at then alike) keeps

  pub tests_second_of_three : (passes : ℤ → Type 0) (before after : List (Bor Domain)) (x z : Bor Domain) (own : Domain) (test : Bool)
      → length before ≡ 1 → length after ≡ 1 → x ≡ get_or before 0 x → z ≡ get_or after 0 z → ((value : ℤ) → passes value ↔ HoldsAsSecond x.now z.now value)
      → IsTrue test ↔ AllTested passes own → IsTrue test ↔ AllTested (λ value. IsSupported reach holds (led_to before) value (led_to after)) own
  tests_second_of_three passes before after x z own test front back at then alike tests =
      tests_along passes (λ value. IsSupported reach holds (led_to before) value (led_to after)) own test (as_second_of_three passes before after x z front back at then alike) tests

  as_third_of_three : (passes : ℤ → Type 0) (before after : List (Bor Domain)) (x y : Bor Domain)
      → length before ≡ 2 → length after ≡ 0 → x ≡ get_or before 0 x → y ≡ get_or before 1 y → ((value : ℤ) → passes value ↔ HoldsAsThird x.now y.now value)
      → (value : ℤ) → passes value ↔ IsSupported reach holds (led_to before) value (led_to after)
  as_third_of_three passes before after x y front back at then alike value =
      subst (λ list. passes value ↔ IsSupported reach holds (led_to list) value (led_to after)) (sym (two_of before x y front at then))
      (subst (λ list. passes value ↔ IsSupported reach holds (led_to (x ∷ y ∷ [])) value (led_to list)) (sym (none_of after back)) (
        λ pass. let w = (alike value).0 pass in (w.0 ∷ w.1 ∷ [], [], (w.2, (w.3, tt)), tt, w.4),
        λ supported. (alike value).1 (third_of_three x.now y.now value supported),
      ))

  pub keeps_third_of_three : (passes : ℤ → Type 0) (before after : List (Bor Domain)) (x y : Bor Domain) (old new : Domain) (change : Change)
      → length before ≡ 2 → length after ≡ 0 → x ≡ get_or before 0 x → y ≡ get_or before 1 y → ((value : ℤ) → passes value ↔ HoldsAsThird x.now y.now value)
      → Keeps passes old change new → Keeps (λ value. IsSupported reach holds (led_to before) value (led_to after)) old change new
  keeps_third_of_three passes before after x y old new change front back at then alike keeps =
      keeps_along passes (λ value. IsSupported reach holds (led_to before) value (led_to after)) old new change (as_third_of_three passes before after x y front back at then alike) keeps

  pub tests_third_of_three : (passes : ℤ → Type 0) (before after : List (Bor Domain)) (x y : Bor Domain) (own : Domain) (test : Bool)
      → length before ≡ 2 → length after ≡ 0 → x ≡ get_or before 0 x → y ≡ get_or before 1 y → ((value : ℤ) → passes value ↔ HoldsAsThird x.now y.now value)
      → IsTrue test ↔ AllTested passes own → IsTrue test ↔ AllTested (λ value. IsSupported reach holds (led_to before) value (led_to after)) own
  tests_third_of_three passes before after x y own test front back at then alike tests =
      tests_along passes (λ value. IsSupported reach holds (led_to before) value (led_to after)) own test (as_third_of_three passes before after x y front back at then alike) tests
