-- What one argument keeps, and the arguments one after another.
use Rattle.std.proofs.Common.{◌≡◌, ℕ, zero, suc, ◌+◌, ◌-◌, ◌<◌, ◌≤◌, ℤ, List, [], ◌∷◌, ◌++◌, length, get_or, take, drop, refl, sym, ap, ◌∙◌, subst, arith}
use Rattle.std.specs.Prelude.{All, ◌↔◌, map, Result, Ok, Err, IsErr}
use Rattle.std.specs.declared.alloc.AllocError.{AllocError}
use Rattle.std.proofs.lemmas.Int.{ints}
use Rattle.std.proofs.lemmas.List.{length-map, length-append}
use denote.Bor.{Bor}
use lib.Seq.{get_or-append_seam}
use Rattle.domain_core.specs.Domain.{Domain, Range, IsDomain, IsValue, IsSameKind, IsWithin, IsTested, slack}
use Rattle.domain_core.specs.Narrowing.{Keeps}
use Rattle.domain_core.specs.declared.Change.{Change}
use Rattle.domain_core.specs.declared.Change.TheVariants.{Same, Smaller, Empty}
use Rattle.domain_core.proofs.Words.{slack_within}
use Rattle.domain_core.proofs.Keeping.{keeps_monotone}
use Rattle.domain_core.specs.Consistency.{Reach, IsSupported}
use Rattle.narrow_core.specs.Laws.{LieWithin}
use Rattle.narrow_core.proofs.Below.{are_domains, supported_along}
use Rattle.narrow_core.proofs.Places.{all_before, same_split}
use Rattle.constraint_net.specs.Arguments.{IsArgument, domain_of, domains_of, AgreeAt}
use Rattle.constraint_net.specs.Reading.{literal_of, LeavesAt, SupportedAt}
use Rattle.constraint_net.specs.Steps.{FitWithin, Advances, AdvancesTo, StepsTo, FitBefore, LiesIn}
use Rattle.constraint_net.specs.declared.constraint.NetArg.{NetArg}
use Rattle.constraint_net.specs.declared.constraint.NetArg.TheVariants.{Var, Lit}
use Rattle.constraint_net.specs.declared.reading.Left.{Left}
use Rattle.constraint_net.specs.declared.reading.Left.TheVariants.{Whole, Part, Nothing}
use Rattle.constraint_net.proofs.Within.{within_length, argument_along, arguments_within, arguments_are}
use Rattle.constraint_net.proofs.Advancing.{advances_refl, steps_as}

-- ---- the arguments, as they are read

pub is_value : (count : ℕ) (arg : NetArg) → IsArgument count arg → IsValue (literal_of arg)
is_value count (Var variable) is = (omega (arith, ints), omega (arith, ints))
is_value count (Lit value) is = is

pub are_values : (count : ℕ) (args : List NetArg) → All (IsArgument count) args → All (λ arg. IsValue (literal_of arg)) args
are_values count args are k d below = is_value count (get_or args k d) (are k d below)

-- what the code reads beside an argument are the arguments before it and those after it
abbrev pub beside : List Domain → Bor Domain → Bor Domain → List (Bor Domain)
beside domains one other = take (length domains - 1) (one ∷ other ∷ [])

abbrev pub led_to : List (Bor Domain) → List Domain
led_to others = map (λ other. other.now) others

pub split_others : (domains : List Domain) (place first second : ℕ) (one other : Bor Domain) (own d : Domain) → 1 < length domains → length domains < 4 → place < length domains
    → (place ≡ 0 → first ≡ 1) → (0 < place → first ≡ 0) → (place ≡ length domains - 1 → second + 1 ≡ length domains - 1) → (place < length domains - 1 → second ≡ length domains - 1)
    → own ≡ get_or domains place d → one.now ≡ get_or domains first d → other.now ≡ get_or domains second d
    → domains ≡ led_to (take place (beside domains one other)) ++ own ∷ led_to (drop place (beside domains one other))
split_others [] place first second one other own d more less below f0 f s0 s own_is one_is other_is = absurd (omega arith)
split_others (x ∷ []) place first second one other own d more less below f0 f s0 s own_is one_is other_is = absurd (omega arith)
split_others (x ∷ y ∷ []) zero first second one other own d more less below f0 f s0 s own_is one_is other_is =
    let at = one_is ∙ ap (λ (n : ℕ). get_or (x ∷ y ∷ []) n d) (f0 refl) in
    (λ i. sym own_is i ∷ sym at i ∷ [])
split_others (x ∷ y ∷ []) (suc zero) first second one other own d more less below f0 f s0 s own_is one_is other_is =
    let at = one_is ∙ ap (λ (n : ℕ). get_or (x ∷ y ∷ []) n d) (f (omega arith)) in
    (λ i. sym at i ∷ sym own_is i ∷ [])
split_others (x ∷ y ∷ []) (suc (suc place)) first second one other own d more less below f0 f s0 s own_is one_is other_is = absurd (omega arith)
split_others (x ∷ y ∷ z ∷ []) zero first second one other own d more less below f0 f s0 s own_is one_is other_is =
    let at = one_is ∙ ap (λ (n : ℕ). get_or (x ∷ y ∷ z ∷ []) n d) (f0 refl) in
    let then = other_is ∙ ap (λ (n : ℕ). get_or (x ∷ y ∷ z ∷ []) n d) (s (omega arith)) in
    (λ i. sym own_is i ∷ sym at i ∷ sym then i ∷ [])
split_others (x ∷ y ∷ z ∷ []) (suc zero) first second one other own d more less below f0 f s0 s own_is one_is other_is =
    let at = one_is ∙ ap (λ (n : ℕ). get_or (x ∷ y ∷ z ∷ []) n d) (f (omega arith)) in
    let then = other_is ∙ ap (λ (n : ℕ). get_or (x ∷ y ∷ z ∷ []) n d) (s (omega arith)) in
    (λ i. sym at i ∷ sym own_is i ∷ sym then i ∷ [])
split_others (x ∷ y ∷ z ∷ []) (suc (suc zero)) first second one other own d more less below f0 f s0 s own_is one_is other_is =
    let is_one : second ≡ 1 = omega (arith, s0 refl) in
    let at = one_is ∙ ap (λ (n : ℕ). get_or (x ∷ y ∷ z ∷ []) n d) (f (omega arith)) in
    let then = other_is ∙ ap (λ (n : ℕ). get_or (x ∷ y ∷ z ∷ []) n d) is_one in
    (λ i. sym at i ∷ sym then i ∷ sym own_is i ∷ [])
split_others (x ∷ y ∷ z ∷ []) (suc (suc (suc place))) first second one other own d more less below f0 f s0 s own_is one_is other_is = absurd (omega arith)
split_others (x ∷ y ∷ z ∷ t ∷ domains) place first second one other own d more less below f0 f s0 s own_is one_is other_is = absurd (omega arith)

-- ---- smaller lists split where larger ones do

record SplitWithin (inner before : List Domain) (own : Domain) (after : List Domain) : Type 0 where
  front : List Domain
  middle : Domain
  back : List Domain
  is : inner ≡ front ++ middle ∷ back
  front_within : LieWithin front before
  own_within : IsWithin middle own
  back_within : LieWithin back after

split_within : (inner before : List Domain) (own : Domain) (after : List Domain) → LieWithin inner (before ++ own ∷ after) → SplitWithin inner before own after
split_within [] [] own after within = absurd within
split_within (o ∷ inner) [] own after within = record { front = []; middle = o; back = inner; is = refl; front_within = tt; own_within = within.0; back_within = within.1 }
split_within [] (b ∷ before) own after within = absurd within
split_within (i ∷ inner) (b ∷ before) own after within =
    let rest = split_within inner before own after within.1 in
    record { front = i ∷ rest.front; middle = rest.middle; back = rest.back; is = ap (λ list. i ∷ list) rest.is; front_within = (within.0, rest.front_within); own_within = rest.own_within; back_within = rest.back_within }

-- the domain at the place of an argument
pub own_is : (domains : List Domain) (args : List NetArg) (before : List Domain) (own : Domain) (after : List Domain) (place : ℕ) (d : NetArg) → place < length args
    → domains_of domains args ≡ before ++ own ∷ after → length before ≡ place → own ≡ domain_of domains (get_or args place d)
own_is domains args before own after place d below split at =
    sym (get_or-append_seam before own after own) ∙ ap (λ (n : ℕ). get_or (before ++ own ∷ after) n own) at ∙ ap (λ (list : List Domain). get_or list place own) (sym split) ∙ mapped args place below
  where
    mapped : (list : List NetArg) (k : ℕ) → k < length list → get_or (domains_of domains list) k own ≡ domain_of domains (get_or list k d)
    mapped [] k under = absurd (omega arith)
    mapped (x ∷ list) zero under = refl
    mapped (x ∷ list) (suc k) under = mapped list k (omega arith)

lies_of : (domains : List Domain) (arg : NetArg) (outer : Domain) → IsWithin (domain_of domains arg) outer → LiesIn arg outer domains
lies_of domains (Var variable) outer inside = inside
lies_of domains (Lit value) outer inside = tt

no_slack : (value : ℤ) → slack (Range value value) ≡ 0
no_slack value = omega arith

argument_slack : (domains : List Domain) (arg : NetArg) (outer : Domain) → IsDomain (domain_of domains arg) → IsDomain outer → LiesIn arg outer domains → slack (domain_of domains arg) ≤ slack outer
argument_slack domains (Var variable) outer ok outer_ok lies = slack_within (domain_of domains (Var variable)) outer ok outer_ok lies
argument_slack domains (Lit value) outer ok outer_ok lies = omega (arith, no_slack value)

-- ---- one argument

module _ (reach : Reach) (holds : List ℤ → Type 0) (args : List NetArg) (old : List Domain) (are : All IsDomain old) (exist : All (IsArgument (length old)) args) (place : ℕ) where
  abbrev supported : List Domain → Type 0
  supported = SupportedAt reach holds args place

  -- of domains below in which the argument is supported nothing goes
  below_kept : (before : List Domain) (own : Domain) (after : List Domain) (left : Domain) (change : Change) (d : NetArg) → place < length args
      → domains_of old args ≡ before ++ own ∷ after → length before ≡ place → IsDomain left → Keeps (λ value. IsSupported reach holds before value after) own change left
      → (below : List Domain) → FitWithin supported old below → (change ≡ Empty → ⊥) × IsWithin (domain_of below (get_or args place d)) left
  below_kept before own after left change d under split at left_ok keeps below fit =
      let within = subst (λ list. LieWithin (domains_of below args) list) split (arguments_within below old args fit.within exist) in
      let parts = split_within (domains_of below args) before own after within in
      let front_at : length parts.front ≡ place = within_length parts.front before parts.front_within ∙ at in
      let old_are = all_before before own after (subst (All IsDomain) split (arguments_are old args are exist)) in
      let below_exist = λ (k : ℕ) (e : NetArg) (inside : k < length args). argument_along (length old) (length below) (get_or args k e) (omega (arith, within_length below old fit.within)) (exist k e inside) in
      let below_are = all_before parts.front parts.middle parts.back (subst (All IsDomain) parts.is (arguments_are below args fit.are below_exist)) in
      let result = keeps_monotone (λ value. IsSupported reach holds parts.front value parts.back) (λ value. IsSupported reach holds before value after) parts.middle parts.middle own left Same change
      below_are.1 below_are.1 old_are.1 left_ok
      (λ value. supported_along reach holds parts.front before parts.back after value (are_domains parts.front below_are.0) (are_domains before old_are.0) (are_domains parts.back below_are.2) (are_domains after old_are.2) parts.front_within parts.back_within)
      parts.own_within (refl, fit.fit parts.front parts.middle parts.back parts.is front_at) keeps (λ e. cc) in
      (result.0, subst (λ domain. IsWithin domain left) (own_is below args parts.front parts.middle parts.back place d under parts.is front_at) result.1)

  -- what is left of the argument
  leaves_as : (left other : Left) → left ≡ other → LeavesAt reach holds place (domains_of old args) (Ok left) → LeavesAt reach holds place (domains_of old args) (Ok other)
  leaves_as left other is leaves = subst (λ (l : Left). LeavesAt reach holds place (domains_of old args) (Ok l)) is leaves

  pub stays_whole : (left : Left) → left ≡ Whole → LeavesAt reach holds place (domains_of old args) (Ok left) → AdvancesTo supported old Same old
  stays_whole left is leaves = whole (leaves_as left Whole is leaves)
    where
      whole : LeavesAt reach holds place (domains_of old args) (Ok Whole) → AdvancesTo supported old Same old
      whole leaves = (
        refl,
        λ before own after split at value tested.
            let same = same_split before leaves.before (own ∷ after) (leaves.own ∷ leaves.after) (at ∙ sym leaves.at) (sym split ∙ leaves.are) in
            let own_same : own ≡ leaves.own = cc (same.1) in
            let after_same : after ≡ leaves.after = cc (same.1) in
            subst (λ list. IsSupported reach holds list value after) (sym same.0)
            (subst (λ list. IsSupported reach holds leaves.before value list) (sym after_same) (leaves.leaves.1 value (subst (λ domain. IsTested domain value) own_same tested))),
      )

  pub keeps_none : (left : Left) (d : NetArg) → place < length args → left ≡ Nothing → LeavesAt reach holds place (domains_of old args) (Ok left) → AdvancesTo supported old Empty old
  keeps_none left d under is found =
      let leaves = leaves_as left Nothing is found in
      let old_are = all_before leaves.before leaves.own leaves.after (subst (All IsDomain) leaves.are (arguments_are old args are exist)) in (
        advances_refl supported old are,
        λ below fit. (below_kept leaves.before leaves.own leaves.after leaves.own Empty d under leaves.are leaves.at old_are.1 leaves.leaves below fit).0 refl,
      )

  module _ (part : Left) (left : Domain) (d : NetArg) (under : place < length args) (is : part ≡ Part left) (found : LeavesAt reach holds place (domains_of old args) (Ok part)) where
    leaves : LeavesAt reach holds place (domains_of old args) (Ok (Part left))
    leaves = leaves_as part (Part left) is found

    abbrev arg : NetArg
    arg = get_or args place d

    at_own : leaves.own ≡ domain_of old arg
    at_own = own_is old args leaves.before leaves.own leaves.after place d under leaves.are leaves.at

    pub part_kind : IsSameKind left (domain_of old arg)
    part_kind = subst (λ domain. IsSameKind left domain) at_own leaves.leaves.1.0.within.kind

    lies_below : (below : List Domain) → FitWithin supported old below → FitWithin (LiesIn arg left) old below
    lies_below below fit = record {
      are = fit.are;
      within = fit.within;
      fit = lies_of below arg left (below_kept leaves.before leaves.own leaves.after left Smaller d under leaves.are leaves.at leaves.leaves.0 leaves.leaves.1 below fit).1;
    }

    part_on : (new : List Domain) → Advances (LiesIn arg left) old new → Advances supported old new
    part_on new step = record { are = step.are; within = step.within; keeps = λ below fit. step.keeps below (lies_below below fit) }

    pub keeps_part : (new : List Domain) (result : Result Change AllocError) → StepsTo (LiesIn arg left) old result new → StepsTo supported old result new
    keeps_part new (Ok Same) step =
        let own_ok = argument_ok in
        absurd (omega (arith, leaves.leaves.1.1, ap slack at_own, argument_slack old arg left own_ok leaves.leaves.0 step.1))
      where
        argument_ok : IsDomain (domain_of old arg)
        argument_ok = subst IsDomain at_own (all_before leaves.before leaves.own leaves.after (subst (All IsDomain) leaves.are (arguments_are old args are exist))).1
    keeps_part new (Ok Smaller) step = (part_on new step.0, step.1)
    keeps_part new (Ok Empty) step = (part_on new step.0, λ below fit. step.1 below (lies_below below fit))
    keeps_part new (Err none) step = part_on new step

  -- where memory has run out before anything was written
  pub supported_not_begun : (result : Result Change AllocError) → IsErr result → StepsTo supported old result old
  supported_not_begun (Ok change) failed = absurd (cc failed)
  supported_not_begun (Err none) failed = advances_refl supported old are

-- ---- all arguments

pub each_supported : (reach : Reach) (holds : List ℤ → Type 0) (args : List NetArg) (domains : List Domain) → FitBefore (SupportedAt reach holds args) (length args) domains ↔ AgreeAt reach holds args domains
each_supported reach holds args domains = (
  λ each before own after value split tested.
      each (length before) (omega (arith, ap length split, length-append before (own ∷ after), length-map args (domain_of domains))) before own after split refl value tested,
  λ agree k below before own after split at value tested. agree before own after value split tested,
)

pub agree_from_each : (reach : Reach) (holds : List ℤ → Type 0) (args : List NetArg) (old new : List Domain) (result : Result Change AllocError) → All IsDomain old
    → StepsTo (FitBefore (SupportedAt reach holds args) (length args)) old result new → StepsTo (AgreeAt reach holds args) old result new
agree_from_each reach holds args old new result are step =
    steps_as (FitBefore (SupportedAt reach holds args) (length args)) (AgreeAt reach holds args) old new result are (λ domains _ _. each_supported reach holds args domains) step
