-- Each flaw has its choices.
use Rattle.std.proofs.Common.{◌≡◌, ℕ, zero, suc, ◌+◌, inl, inr, ℤ, pos, ◌+ℤ◌, ◌≤ℤ◌, ◌<ℤ◌, Bool, true, false, List, [], ◌∷◌, ◌++◌, refl, subst, arith}
use Rattle.std.specs.Prelude.{AllPairs, Contains, ◌↔◌, map}
use Rattle.std.proofs.lemmas.Int.{ints, by_lt_z}
use Rattle.domain_core.specs.Domain.{Domain, Range, Set, IsDomain, Has, slack}
use Rattle.eu_name.specs.declared.name.TokenName.{TokenName}
use Rattle.eu_name.specs.declared.name.VarName.{VarName}
use Rattle.eu_name.specs.NameOrder.{IsTokenBefore}
use Rattle.eu_name.proofs.Ordered.{contains_head, contains_later, contains_cases, contains_none, ordered_none, ordered_cons}
use Rattle.eu_name.proofs.Orders.{token_order}
use Rattle.model_core.specs.declared.decision.Decision.{Decision}
use Rattle.model_core.specs.declared.decision.Decision.TheVariants.{Specify, Activate, Merge, Reject, Order}
use Rattle.model_core.specs.declared.model.Model.{Model}
use Rattle.model_core.specs.Decided.{IsActive}
use Rattle.model_core.specs.State.{State, IsState}
use Rattle.model_core.specs.Tokens.{IsRejectable}
use Rattle.plan_defs.specs.Flaws.{Flaw, Undecided, Undetermined, Unordered, Untimed, IsUnbound}
use Rattle.plan_defs.specs.Refusals.{HaveSamePredicate, AreActive}
use Rattle.plan_defs.proofs.Knowing.{IsOrNot}
use Rattle.plan_defs.proofs.States.{gives_domain}
use Rattle.law_states.specs.Undeniable.{Undeniable}
use Rattle.law_states.proofs.Denying.{is_or_not, each_is_or_not}
use Rattle.law_states.proofs.Listing.{chosen}
use Rattle.law_search.specs.Choices.{AreTargets, IsActivationLeft, IsRejectionLeft, AreTokenChoices, AreValueChoices}
use Rattle.law_search.specs.Outcomes.{FlawsHaveChoices}
use Rattle.law_search.specs.Search.{TellsLeftOut}

-- ---- the values of a domain

-- so many numbers from this one on
abbrev run_from : ℤ → ℕ → List ℤ
run_from low zero = []
run_from low (suc count) = low ∷ run_from (low +ℤ pos 1) count

run_has : (low : ℤ) (count : ℕ) (value : ℤ) → Contains (run_from low count) value → (low ≤ℤ value) × (value <ℤ (low +ℤ pos count))
run_has low zero value there = absurd (contains_none value there)
run_has low (suc count) value there = elim (contains_cases low value (run_from (low +ℤ pos 1) count) there) [
  | inl same ↦ (omega (arith, ints, same), omega (arith, ints, same))
  | inr later ↦
      let is = run_has (low +ℤ pos 1) count value later in
      let from = is.0 in
      let to = is.1 in
      (omega (arith, ints, from), omega (arith, ints, to))
]

has_run : (low : ℤ) (count : ℕ) (value : ℤ) → low ≤ℤ value → value <ℤ (low +ℤ pos count) → Contains (run_from low count) value
has_run low zero value from to = absurd (omega (arith, ints, from, to))
has_run low (suc count) value from to =
    by_lt_z low value
    (λ less. contains_later low value (run_from (low +ℤ pos 1) count) (has_run (low +ℤ pos 1) count value (omega (arith, ints, less)) (omega (arith, ints, to))))
    (λ not.
    let same : low ≡ value = omega (arith, ints, from, not) in
    subst (λ (v : ℤ). Contains (run_from low (suc count)) v) same (contains_head low (run_from (low +ℤ pos 1) count)))

run_ascends : (low : ℤ) (count : ℕ) → AllPairs (λ one other. one <ℤ other) (run_from low count)
run_ascends low zero = ordered_none (λ one other. one <ℤ other)
run_ascends low (suc count) =
    ordered_cons (λ one other. one <ℤ other) low (run_from (low +ℤ pos 1) count)
    (λ value there. let from = (run_has (low +ℤ pos 1) count value there).0 in omega (arith, ints, from))
    (run_ascends (low +ℤ pos 1) count)

record AreValuesOf (domain : Domain) : Type 0 where
  values : List ℤ
  ascending : AllPairs (λ one other. one <ℤ other) values
  all : (value : ℤ) → Contains values value ↔ Has domain value

values_of : (domain : Domain) → IsDomain domain → AreValuesOf domain
values_of (Set members) ok = record { values = members; ascending = ok.ascending; all = λ value. (λ there. there, λ has. has) }
values_of (Range low high) ok =
    let count = slack (Range low high) + 1 in
    let order = ok.2 in
    let past : low +ℤ pos count ≡ high +ℤ pos 1 = omega (arith, ints, order) in
    record {
      values = run_from low count;
      ascending = run_ascends low count;
      all = λ value. (
        λ there. let is = run_has low count value there in let from = is.0 in let to = is.1 in (from, omega (arith, ints, to, past)),
        λ has. let from = has.0 in let to = has.1 in has_run low count value from (omega (arith, ints, to, past)),
      );
    }

-- ---- choices

module _ (model : Model) (decisions : List Decision) (state : State) (is_state : IsState model state) where
  value_choices : (name : VarName) → IsUnbound decisions state name → (choices : List Decision) × AreValueChoices state name choices
  value_choices name is =
      let found = values_of is.domain (gives_domain model state is_state name is.domain is.gives) in (
        map (λ value. Specify name value) found.values,
        record { domain = is.domain; gives = is.gives; values = found.values; ascending = found.ascending; all = found.all; are = refl },
      )

  module _ (bound : ℕ) (token : TokenName) where
    abbrev IsTarget : TokenName → Type 0
    IsTarget target = IsActive model decisions target × HaveSamePredicate model token target

    targets_of : ((target : TokenName) → Contains state.tokens target → IsOrNot (IsTarget target)) → (targets : List TokenName) × AreTargets model decisions state token targets
    targets_of decide =
        let some = chosen IsTokenBefore token_order IsTarget state.tokens decide in
        (some.list, record { order = some.order; are = some.are })

    activation_of : IsOrNot (AreActive model decisions bound) → (choices : List Decision) × IsActivationLeft model decisions bound token choices
    activation_of (inl full) = ([], inr (full, refl))
    activation_of (inr not) = (Activate token ∷ [], inl (not, refl))

    rejection_of : IsOrNot (IsRejectable model token) → (choices : List Decision) × IsRejectionLeft model token choices
    rejection_of (inl is) = (Reject token ∷ [], inl (is, refl))
    rejection_of (inr not) = ([], inr (not, refl))

    token_choices : ((target : TokenName) → Contains state.tokens target → IsOrNot (IsTarget target)) → IsOrNot (AreActive model decisions bound) → IsOrNot (IsRejectable model token)
        → (choices : List Decision) × AreTokenChoices model decisions state bound token choices
    token_choices decide full rejectable =
        let targets = targets_of decide in
        let activation = activation_of full in
        let rejection = rejection_of rejectable in (
          map (λ target. Merge token target) targets.0 ++ (activation.0 ++ rejection.0),
          record {
            targets = targets.0;
            are_targets = targets.1;
            activation = activation.0;
            activated = activation.1;
            rejection = rejection.0;
            rejected = rejection.1;
            are = refl;
          },
        )

    some_token_choices : Undeniable ((choices : List Decision) × AreTokenChoices model decisions state bound token choices)
    some_token_choices none =
        each_is_or_not IsTarget state.tokens (λ decide. is_or_not (AreActive model decisions bound) (λ full.
        is_or_not (IsRejectable model token) (λ rejectable. none (token_choices decide full rejectable))))

pub flaws_have_choices : FlawsHaveChoices
flaws_have_choices model decisions state bound (Undecided token) is_state is none = some_token_choices model decisions state is_state bound token none
flaws_have_choices model decisions state bound (Undetermined name) is_state is none = none (value_choices model decisions state is_state name is.1)
flaws_have_choices model decisions state bound (Unordered one other) is_state is none = none (Order one other ∷ Order other one ∷ [], refl)
flaws_have_choices model decisions state bound (Untimed name) is_state is none = none (value_choices model decisions state is_state name is.1)

-- whether an activation is left out is told
pub tells_left_out : (model : Model) (decisions : List Decision) (bound : ℕ) (flaw : Flaw) → Undeniable ((out : Bool) × TellsLeftOut model decisions bound flaw out)
tells_left_out model decisions bound (Undecided token) none = is_or_not (AreActive model decisions bound) (λ which. elim which [
  | inl full ↦ none (true, (λ state. full))
  | inr not ↦ none (false, (λ state is. not is))
])
tells_left_out model decisions bound (Undetermined name) none = none (false, (λ state is. is))
tells_left_out model decisions bound (Unordered one other) none = none (false, (λ state is. is))
tells_left_out model decisions bound (Untimed name) none = none (false, (λ state is. is))
