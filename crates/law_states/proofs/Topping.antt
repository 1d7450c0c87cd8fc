-- A settled list leaves nothing, or it has a least state: of the closed states one that can't be lighter is above all others.
use Rattle.std.proofs.Common.{ℕ, zero, suc, ◌<◌, inl, inr, List, [], ◌∷◌, ◌++◌, refl, sym, subst, arith}
use Rattle.std.specs.Prelude.{Contains}
use Rattle.std.proofs.lemmas.List.Elements.{Contains-push_cases}
use Rattle.eu_name.specs.declared.name.TokenName.{TokenName}
use Rattle.eu_name.proofs.Ordered.{contains_none}
use Rattle.model_core.specs.declared.decision.Decision.{Decision}
use Rattle.model_core.specs.declared.decision.Decision.TheVariants.{Activate, Merge, Reject}
use Rattle.model_core.specs.declared.model.Model.{Model}
use Rattle.model_core.specs.declared.refusal.Refusal.TheVariants.{Unknown}
use Rattle.model_core.specs.Decided.{IsActive, IsTaken, IsRejected}
use Rattle.model_core.specs.Lawful.{IsLawful}
use Rattle.model_core.specs.State.{State, IsBelow}
use Rattle.plan_defs.specs.Closure.{IsPropagatedState, IsClosed, IsLeast}
use Rattle.plan_defs.specs.Refusals.{IsKnown, IsAdmissible}
use Rattle.plan_defs.specs.Settling.{SettlesAfter, IsSettled}
use Rattle.plan_defs.proofs.Deciding.{decides_once}
use Rattle.plan_defs.proofs.Knowing.{known_or_not}
use Rattle.plan_defs.proofs.Lower.{front_propagated}
use Rattle.plan_defs.proofs.Reservoirs.{reservoirs_above}
use Rattle.plan_defs.proofs.Resources.{reusables_above}
use Rattle.plan_defs.proofs.Settling.{IsSettled-push}
use Rattle.plan_defs.proofs.States.{IsBelow-trans}
use Rattle.law_states.specs.LeastStates.{HasUpper}
use Rattle.law_states.specs.Undeniable.{Undeniable, ListsCollapseOrHaveLeast}
use Rattle.law_states.proofs.Founding.{least_above, well_founded}
use Rattle.law_states.proofs.Joining.{upper}
use Rattle.law_states.proofs.Known.{known_below}
use Rattle.law_states.proofs.Pruning.{root_supported}
use Rattle.law_states.proofs.Weighing.{weight_of, same_or_lighter}

-- ---- what a settled list names is in each propagated state

module _ (model : Model) (lawful : IsLawful model) where
  abbrev KnowAll : List Decision → Type 0
  KnowAll decisions = (other : State) → IsPropagatedState model decisions other → (decision : Decision) → Contains decisions decision → IsKnown other decision

  -- the state after which one more was admissible knows this one too
  known_before : (kept : List Decision) (next : Decision) → IsSettled model kept → (admissible : IsAdmissible model kept next)
      → (decision : Decision) → Contains (kept ++ next ∷ []) decision → IsKnown admissible.state decision
  known_before kept next settled admissible decision there = elim (Contains-push_cases kept next decision there) [
    | inl old ↦ (well_founded model kept admissible.state lawful settled admissible.least).known decision old
    | inr same ↦ elim (known_or_not admissible.state next) [
      | inl known ↦ subst (IsKnown admissible.state) same known
      | inr none ↦ absurd (admissible.free Unknown none)
    ]
  ]

  know_more : (kept : List Decision) (next : Decision) → IsSettled model kept → IsAdmissible model kept next → KnowAll (kept ++ next ∷ [])
  know_more kept next settled admissible other fit decision there =
      known_below admissible.state other
      (least_above model kept admissible.state other lawful settled admissible.least (front_propagated model kept (next ∷ []) other fit))
      decision (known_before kept next settled admissible decision there)

  know_after : (kept decisions settled : List Decision) → IsSettled model kept → KnowAll kept → SettlesAfter model kept decisions settled → KnowAll settled
  know_after kept [] settled is all same = subst KnowAll (sym same) all
  know_after kept (next ∷ decisions) settled is all (inl stays) =
      know_after (kept ++ next ∷ []) decisions settled (IsSettled-push model kept next is stays.0) (know_more kept next is stays.0) stays.1
  know_after kept (next ∷ decisions) settled is all (inr goes) = know_after kept decisions settled is all goes.1

  know_all : (decisions : List Decision) → IsSettled model decisions → KnowAll decisions
  know_all decisions settled = know_after [] decisions decisions refl (λ other fit decision there. absurd (contains_none decision there)) settled

  -- ---- closed states

  module _ (decisions : List Decision) (settled : IsSettled model decisions) where
    apart : (token : TokenName) → IsRejected decisions token → IsTaken decisions token → ⊥
    apart token rejected (inl activated) =
        let same = (decides_once model decisions settled).one token (Reject token) (Activate token) rejected activated refl refl in absurd (cc)
    apart token rejected (inr merged) =
        let same = (decides_once model decisions settled).one token (Reject token) (Merge token merged.0) rejected merged.1 refl refl in absurd (cc)

    active_there : (state : State) → IsPropagatedState model decisions state → (token : TokenName) → IsActive model decisions token → Contains state.tokens token
    active_there state fit token (inl fact) = fit.tokens token (root_supported model decisions state token fact.1.0 fact.0 fact.1.1)
    active_there state fit token (inr activated) = know_all decisions settled state fit (Activate token) activated

    -- what is propagated and has a closed state below it is closed
    closed_above : (high low : State) → IsPropagatedState model decisions high → IsClosed model decisions low → IsBelow high low → IsClosed model decisions high
    closed_above high low fit closed below = record {
      consistent = fit;
      reusables = reusables_above model decisions high low fit.is_state closed.consistent.is_state below closed.reusables;
      reservoirs = reservoirs_above model decisions high low fit closed.consistent below (record { apart = apart; active = active_there high fit }) closed.reservoirs;
    }

    -- of a closed state that weighs less than this there is a least one
    least_within : (number : ℕ) (state : State) → IsClosed model decisions state → weight_of state < number
        → Undeniable ((top : State) × IsLeast model decisions top)
    least_within zero state closed few none = absurd (omega (arith, few))
    least_within (suc number) state closed few none =
        none (
          state,
          record {
            closed = closed;
            below = λ other fit. by_upper other (upper model decisions lawful state other closed.consistent fit.consistent)
                (λ high is less. least_within number high is less none);
          },
        )
      where
        by_upper : (other : State) → HasUpper model decisions state other
            → ((high : State) → IsClosed model decisions high → weight_of high < number → ⊥) → IsBelow state other
        by_upper other up lighter = elim (same_or_lighter model up.upper state up.consistent.is_state closed.consistent.is_state up.one_below) [
          | inl back ↦ IsBelow-trans state up.upper other back up.other_below
          | inr less ↦ absurd (lighter up.upper (closed_above up.upper state up.consistent closed up.one_below) (omega (arith, less, few)))
        ]

pub collapse_or_least : ListsCollapseOrHaveLeast
collapse_or_least model decisions lawful settled none =
    none (inl (λ state closed. least_within model lawful decisions settled (suc (weight_of state)) state closed (omega arith) (λ least. none (inr least))))
