-- What follows from one pass over the arguments, whatever the constraint is.
use Rattle.std.proofs.Common.{◌≡◌, ◌<◌, ℤ, List, [], ◌∷◌, ◌++◌, length, ◌⊎◌, ⊎_elim, inl, inr, refl, sym, ap, ◌∙◌, subst, arith}
use Rattle.std.specs.Prelude.{sum_by}
use Rattle.std.specs.List.{AllZip}
use Rattle.std.proofs.lemmas.List.{append_assoc, append-nil}
use Rattle.std.proofs.lemmas.List.Sums.{sum_by-cons}
use Rattle.domain_core.specs.Domain.{Domain, IsWithin, IsSingle, IsTested, slack}
use Rattle.domain_core.specs.Narrowing.{Keeps, joined}
use Rattle.domain_core.specs.declared.Change.{Change}
use Rattle.domain_core.specs.declared.Change.TheVariants.{Same, Smaller, Empty}
use Rattle.domain_core.specs.Consistency.{Reach, IsSupported, AreConsistent}
use Rattle.narrow_core.specs.Sweeps.{Sweeps}
use Rattle.narrow_core.specs.Laws.{LieWithin, AreConsistentBelow, Narrows, Decides}
use Rattle.domain_core.proofs.Words.{tested_least, single_least, single_greatest, slack_from_ends, IsWithin-refl}
use Rattle.domain_core.proofs.Keeping.{keeps_one, keeps_monotone}
use Rattle.narrow_core.proofs.Below.{AreDomains, are_domains, domains_push, within_refl, within_push, supported_along, all_admitted_single, consistent_single}

-- ---- joined answers

pub empty_or_not : (change : Change) → (change ≡ Empty) ⊎ (change ≡ Empty → ⊥)
empty_or_not Same = inr (λ e. cc)
empty_or_not Smaller = inr (λ e. cc)
empty_or_not Empty = inl refl

pub joined_empty : (change : Change) → joined change Empty ≡ Empty
joined_empty Same = refl
joined_empty Smaller = refl
joined_empty Empty = refl

pub joined_same : (change : Change) → joined change Same ≡ change
joined_same Same = refl
joined_same Smaller = refl
joined_same Empty = refl

pub joined_assoc : (one other third : Change) → joined (joined one other) third ≡ joined one (joined other third)
joined_assoc Same other third = refl
joined_assoc Empty other third = refl
joined_assoc Smaller Same third = refl
joined_assoc Smaller Empty third = refl
joined_assoc Smaller Smaller Same = refl
joined_assoc Smaller Smaller Smaller = refl
joined_assoc Smaller Smaller Empty = refl

pub joined_some : (first next : Change) → (first ≡ Empty → ⊥) → (next ≡ Empty → ⊥) → joined first next ≡ Empty → ⊥
joined_some Same next p q e = q e
joined_some Smaller Same p q e = cc
joined_some Smaller Smaller p q e = cc
joined_some Smaller Empty p q e = q refl
joined_some Empty next p q e = p refl

first_same : (first next : Change) → joined first next ≡ Same → first ≡ Same
first_same Same next e = refl
first_same Smaller Same e = cc
first_same Smaller Smaller e = cc
first_same Smaller Empty e = cc
first_same Empty next e = cc

next_same : (first next : Change) → joined first next ≡ Same → next ≡ Same
next_same Same next e = e
next_same Smaller Same e = refl
next_same Smaller Smaller e = cc
next_same Smaller Empty e = cc
next_same Empty next e = cc

-- ---- the steps of a pass

module _ (reach : Reach) (holds : List ℤ → Type 0) where
  -- the arguments from here on are supported
  abbrev pub AreSupported : List Domain → List Domain → Type 0
  AreSupported left later =
      (before : List Domain) (domain : Domain) (after : List Domain) (value : ℤ) → later ≡ before ++ domain ∷ after → IsTested domain value
      → IsSupported reach holds (left ++ before) value after

  supported_later : (left : List Domain) (old : Domain) (later : List Domain) → AreSupported left (old ∷ later) → AreSupported (left ++ old ∷ []) later
  supported_later left old later supported before domain after value split tested =
      subst (λ list. IsSupported reach holds list value after) (sym (append_assoc left (old ∷ []) before))
      (supported (old ∷ before) domain after value (ap (λ list. old ∷ list) split) tested)

  pub sweep_same : (left later : List Domain) → AreSupported left later → Sweeps reach holds left later Same later
  sweep_same left [] supported = (refl, refl)
  sweep_same left (old ∷ later) supported = (
    Same,
    (refl, λ value tested. subst (λ list. IsSupported reach holds list value later) (append-nil left) (supported [] old later value refl tested)),
    λ e. absurd (cc),
    λ some. (Same, refl, sweep_same (left ++ old ∷ []) later (supported_later left old later supported)),
  )

  pub no_split : (before : List Domain) (domain : Domain) (after : List Domain) → [] ≡ before ++ domain ∷ after → ⊥
  no_split [] domain after e = cc
  no_split (b ∷ before) domain after e = cc

  -- the first of them is supported, and the later ones behind it
  supported_both : (left : List Domain) (old new : Domain) (later : List Domain) → new ≡ old → ((value : ℤ) → IsTested old value → IsSupported reach holds left value later)
      → AreSupported (left ++ new ∷ []) later → AreSupported left (old ∷ later)
  supported_both left old new later same first rest [] domain after value split tested =
      let at : old ≡ domain = cc in
      let behind : later ≡ after = cc in
      subst (λ list. IsSupported reach holds list value after) (sym (append-nil left))
      (subst (λ list. IsSupported reach holds left value list) behind (first value (subst (λ d. IsTested d value) (sym at) tested)))
  supported_both left old new later same first rest (b ∷ before) domain after value split tested =
      let at : old ≡ b = cc in
      let behind : later ≡ before ++ domain ∷ after = cc in
      subst (λ list. IsSupported reach holds list value after)
      (append_assoc left (new ∷ []) before ∙ ap (λ d. left ++ d ∷ before) (same ∙ at))
      (rest before domain after value behind tested)

  pub same_supported : (left later new : List Domain) (change : Change) → change ≡ Same → Sweeps reach holds left later change new → (new ≡ later) × AreSupported left later
  same_supported left [] new change same sweep = (sweep.1, λ before domain after value split tested. absurd (no_split before domain after split))
  same_supported left (old ∷ later) [] change same sweep = absurd sweep
  same_supported left (old ∷ later) (new ∷ rest) change same sweep =
      ⊎_elim
      (λ empty. let e = (sweep.2 empty).0 in absurd (cc (e, same)))
      (λ some.
      let then_next = sweep.3 some in
      let joined_is : joined sweep.0 then_next.0 ≡ Same = sym then_next.1 ∙ same in
      let step = subst (λ c. Keeps (λ value. IsSupported reach holds left value later) old c new) (first_same sweep.0 then_next.0 joined_is) sweep.1 in
      let behind = same_supported (left ++ new ∷ []) later rest then_next.0 (next_same sweep.0 then_next.0 joined_is) then_next.2 in
      ((λ i. step.0 i ∷ behind.0 i), supported_both left old new later step.0 step.1 behind.1))
      (empty_or_not sweep.0)

  -- ---- of more, more is left

  pub monotone : (left wide_left old wide new wide_new : List Domain) (change wide_change : Change)
      → AreDomains left → AreDomains wide_left → AreDomains old → AreDomains wide → AreDomains new → AreDomains wide_new
      → LieWithin left wide_left → LieWithin old wide
      → Sweeps reach holds left old change new → Sweeps reach holds wide_left wide wide_change wide_new
      → (change ≡ Empty → ⊥) → (wide_change ≡ Empty → ⊥) × LieWithin new wide_new
  monotone left wide_left [] [] new wide_new change wide_change lok wlok ok wok nok wnok lin oin sweep wide_sweep some =
      (λ e. let same = wide_sweep.0 in absurd (cc (e, same)), subst (λ list. LieWithin list wide_new) (sym sweep.1) (subst (LieWithin []) (sym wide_sweep.1) tt))
  monotone left wide_left [] (w ∷ wide) new wide_new change wide_change lok wlok ok wok nok wnok lin oin sweep wide_sweep some = absurd oin
  monotone left wide_left (o ∷ old) [] new wide_new change wide_change lok wlok ok wok nok wnok lin oin sweep wide_sweep some = absurd oin
  monotone left wide_left (o ∷ old) (w ∷ wide) [] wide_new change wide_change lok wlok ok wok nok wnok lin oin sweep wide_sweep some = absurd sweep
  monotone left wide_left (o ∷ old) (w ∷ wide) (n ∷ new) [] change wide_change lok wlok ok wok nok wnok lin oin sweep wide_sweep some = absurd wide_sweep
  monotone left wide_left (o ∷ old) (w ∷ wide) (n ∷ new) (m ∷ wide_new) change wide_change lok wlok ok wok nok wnok lin oin sweep wide_sweep some =
      let first_some : sweep.0 ≡ Empty → ⊥ = λ e. some (sweep.2 e).0 in
      let step = keeps_monotone (λ value. IsSupported reach holds left value old) (λ value. IsSupported reach holds wide_left value wide) o n w m sweep.0 wide_sweep.0
      ok.0 nok.0 wok.0 wnok.0 (λ value. supported_along reach holds left wide_left old wide value lok wlok ok.1 wok.1 lin oin.1) oin.0 sweep.1 wide_sweep.1 first_some in
      let then_next = sweep.3 first_some in
      let wide_next = wide_sweep.3 step.0 in
      let rest = monotone (left ++ n ∷ []) (wide_left ++ m ∷ []) old wide new wide_new then_next.0 wide_next.0
      (domains_push left n lok nok.0) (domains_push wide_left m wlok wnok.0) ok.1 wok.1 nok.1 wnok.1
      (within_push left wide_left n m lin step.1) oin.1 then_next.2 wide_next.2 (λ e. some (then_next.1 ∙ ap (joined sweep.0) e ∙ joined_empty sweep.0)) in
      (λ e. joined_some wide_sweep.0 wide_next.0 step.0 rest.0 (sym wide_next.1 ∙ e), (step.1, rest.1))

  -- ---- the answer is one

  pub one_answer : (left old new other : List Domain) (change answer : Change) → AreDomains old → AreDomains new → AreDomains other
      → Sweeps reach holds left old change new → Sweeps reach holds left old answer other → (change ≡ answer) × (new ≡ other)
  one_answer left [] new other change answer ok nok aok sweep again = (sweep.0 ∙ sym again.0, sweep.1 ∙ sym again.1)
  one_answer left (o ∷ old) [] other change answer ok nok aok sweep again = absurd sweep
  one_answer left (o ∷ old) (n ∷ new) [] change answer ok nok aok sweep again = absurd again
  one_answer left (o ∷ old) (n ∷ new) (a ∷ other) change answer ok nok aok sweep again =
      let step = keeps_one (λ value. IsSupported reach holds left value old) o n a sweep.0 again.0 ok.0 nok.0 aok.0 sweep.1 again.1 in
      ⊎_elim
      (λ empty.
      let one = sweep.2 empty in
      let two = again.2 (sym step.0 ∙ empty) in
      (one.0 ∙ sym two.0, (λ i. step.1 i ∷ (one.1 ∙ sym two.1) i)))
      (λ some.
      let one = sweep.3 some in
      let two = again.3 (λ e. some (step.0 ∙ e)) in
      let moved = subst (λ d. Sweeps reach holds (left ++ d ∷ []) old two.0 other) (sym step.1) two.2 in
      let rest = one_answer (left ++ n ∷ []) old new other one.0 two.0 ok.1 nok.1 aok.1 one.2 moved in
      (one.1 ∙ (λ i. joined (step.0 i) (rest.0 i)) ∙ sym two.1, (λ i. step.1 i ∷ rest.1 i)))
      (empty_or_not sweep.0)

  -- ---- what is left lies in what was, and is less where something went

  abbrev Falls : List Domain → Change → List Domain → Type 0
  Falls old Same new = new ≡ old
  Falls old Smaller new = sum_by slack new < sum_by slack old
  Falls old Empty new = Unit {0}

  step_within : (passes : ℤ → Type 0) (old new : Domain) (change : Change) → Keeps passes old change new → IsWithin new old
  step_within passes old new Same keeps = subst (λ d. IsWithin d old) (sym keeps.0) (IsWithin-refl old)
  step_within passes old new Smaller keeps = keeps.0.within
  step_within passes old new Empty keeps = subst (λ d. IsWithin d old) (sym keeps.0) (IsWithin-refl old)

  step_falls : (passes : ℤ → Type 0) (first next : Change) (old new : Domain) (later rest : List Domain) → Keeps passes old first new → Falls later next rest → Falls (old ∷ later) (joined first next) (new ∷ rest)
  step_falls passes Same Same old new later rest keeps falls = (λ i. keeps.0 i ∷ falls i)
  step_falls passes Same Smaller old new later rest keeps falls = omega (arith, ap slack keeps.0, falls, sum_by-cons slack old later, sum_by-cons slack new rest)
  step_falls passes Same Empty old new later rest keeps falls = tt
  step_falls passes Smaller Same old new later rest keeps falls = omega (arith, keeps.1, ap (sum_by slack) falls, sum_by-cons slack old later, sum_by-cons slack new rest)
  step_falls passes Smaller Smaller old new later rest keeps falls = omega (arith, keeps.1, falls, sum_by-cons slack old later, sum_by-cons slack new rest)
  step_falls passes Smaller Empty old new later rest keeps falls = tt
  step_falls passes Empty next old new later rest keeps falls = tt

  sweep_falls : (left old new : List Domain) (change : Change) → Sweeps reach holds left old change new → LieWithin new old × Falls old change new
  sweep_falls left [] new change sweep = (subst (λ list. LieWithin list []) (sym sweep.1) tt, subst (λ c. Falls [] c new) (sym sweep.0) sweep.1)
  sweep_falls left (o ∷ old) [] change sweep = absurd sweep
  sweep_falls left (o ∷ old) (n ∷ new) change sweep =
      let passes = λ (value : ℤ). IsSupported reach holds left value old in
      let inner = step_within passes o n sweep.0 sweep.1 in
      ⊎_elim
      (λ empty.
      let end = sweep.2 empty in
      ((inner, subst (λ list. LieWithin list old) (sym end.1) (within_refl old)), subst (λ c. Falls (o ∷ old) c (n ∷ new)) (sym end.0) tt))
      (λ some.
      let then_next = sweep.3 some in
      let rest = sweep_falls (left ++ n ∷ []) old new then_next.0 then_next.2 in
      ((inner, rest.0), subst (λ c. Falls (o ∷ old) c (n ∷ new)) (sym then_next.1) (step_falls passes sweep.0 then_next.0 o n old new sweep.1 rest.1)))
      (empty_or_not sweep.0)

  -- ---- the laws

  pub sound : (old new : List Domain) (change : Change) → AreDomains old → AreDomains new → Sweeps reach holds [] old change new
      → (below : List Domain) → AreConsistentBelow reach holds old below → (change ≡ Empty → ⊥) × LieWithin below new
  sound old new change ok nok sweep below consistent =
      let bok = are_domains below consistent.are in
      monotone [] [] below old below new Same change tt tt bok ok bok nok tt consistent.within (sweep_same [] below consistent.consistent) sweep (λ e. cc)

  pub narrows : (old new : List Domain) (change : Change) → AreDomains old → AreDomains new → Sweeps reach holds [] old change new → Narrows reach holds old change new
  narrows old new Same ok nok sweep = same_supported [] old new Same refl sweep
  narrows old new Smaller ok nok sweep =
      let falls = sweep_falls [] old new Smaller sweep in
      (falls.0, falls.1, λ below consistent. (sound old new Smaller ok nok sweep below consistent).1)
  narrows old new Empty ok nok sweep =
      ((sweep_falls [] old new Empty sweep).0, λ below consistent. (sound old new Empty ok nok sweep below consistent).0 refl)

  pub consistent_same : (old new : List Domain) (change : Change) → AreDomains old → AreDomains new → Sweeps reach holds [] old change new → AreConsistent reach holds old → change ≡ Same
  consistent_same old new change ok nok sweep consistent = (one_answer [] old new old change Same ok nok ok sweep (sweep_same [] old consistent)).0

  -- ---- single values

  no_slack : (domains : List Domain) (values : List ℤ) → AreDomains domains → AllZip IsSingle domains values → sum_by slack domains ≡ 0
  no_slack [] values are single = refl
  no_slack (domain ∷ domains) [] are single = absurd single
  no_slack (domain ∷ domains) (value ∷ values) are single =
      let none = slack_from_ends domain are.0 (single_least domain value are.0 single.0 ∙ sym (single_greatest domain value are.0 single.0)) in
      omega (arith, none, no_slack domains values are.1 single.1, sum_by-cons slack domain domains)

  holds_of_single : (domains : List Domain) (values : List ℤ) → 0 < length domains → AreDomains domains → AllZip IsSingle domains values → AreConsistent reach holds domains → holds values
  holds_of_single [] values some are single consistent = absurd (omega arith)
  holds_of_single (domain ∷ domains) [] some are single consistent = absurd single
  holds_of_single (domain ∷ domains) (value ∷ values) some are single consistent =
      first_holds (consistent [] domain domains value refl (subst (IsTested domain) (single_least domain value are.0 single.0) (tested_least domain are.0)))
    where
      first_holds : IsSupported reach holds [] value domains → holds (value ∷ values)
      first_holds ([], right, none, admit, holding) = subst (λ list. holds (value ∷ list)) (all_admitted_single reach domains values right are.1 single.1 admit) holding
      first_holds (other ∷ left, right, none, admit, holding) = absurd none

  pub decides : (old new : List Domain) (values : List ℤ) (change : Change) → 0 < length old → AreDomains old → AreDomains new → AllZip IsSingle old values
      → Sweeps reach holds [] old change new → Decides change (holds values)
  decides old new values Same some ok nok single sweep = holds_of_single old values some ok single (same_supported [] old new Same refl sweep).1
  decides old new values Smaller some ok nok single sweep = omega (arith, (sweep_falls [] old new Smaller sweep).1, no_slack old values ok single)
  decides old new values Empty some ok nok single sweep = λ holding. let same = consistent_same old new Empty ok nok sweep (consistent_single reach holds old values ok single holding) in absurd (cc same)
