-- The least state of a settled list is above every propagated state, and has nothing that isn't supported.
use Rattle.std.proofs.Common.{inl, inr, ⊎_elim, List, [], ◌∷◌, ◌++◌, refl, sym, subst}
use Rattle.std.specs.Prelude.{Contains}
use Rattle.std.proofs.lemmas.List.Elements.{All-weaker, Contains-append_left, Contains-push_cases}
use Rattle.eu_name.specs.declared.name.TokenName.{TokenName}
use Rattle.eu_name.specs.declared.name.VarName.{VarName}
use Rattle.eu_name.specs.declared.name.VarName.TheVariants as names
use Rattle.model_core.specs.declared.decision.ConArg.{ConArg}
use Rattle.model_core.specs.declared.decision.ConArg.TheVariants.{Var, Value}
use Rattle.model_core.specs.declared.decision.Decision.{Decision}
use Rattle.model_core.specs.declared.decision.Decision.TheVariants.{Specify, Activate, Merge, Reject, Order, Constrain, Relate}
use Rattle.model_core.specs.declared.model.Model.{Model}
use Rattle.model_core.specs.Blocks.{TokenBlock, OfLocal, direct}
use Rattle.model_core.specs.Decided.{IsActive, IsTaken, IsRejected}
use Rattle.model_core.specs.Entries.{Entries}
use Rattle.model_core.specs.Lawful.{IsLawful}
use Rattle.model_core.specs.State.{State, IsAbout, IsState, IsBelow}
use Rattle.plan_defs.specs.declared.plan.Plan.{Plan}
use Rattle.plan_defs.specs.Broken.{AgreesWith}
use Rattle.plan_defs.specs.Closure.{IsPropagatedState, IsClosed, IsLeast}
use Rattle.plan_defs.specs.Refusals.{IsArgumentKnown, IsKnown, IsAdmissible}
use Rattle.model_core.specs.declared.refusal.Refusal.TheVariants.{Unknown}
use Rattle.plan_defs.specs.Settling.{SettlesAfter, IsSettled}
use Rattle.plan_defs.specs.Situations.{Situation, situation_of}
use Rattle.plan_defs.specs.Support.{IsSupportedToken, IsSupportedBlock}
use Rattle.plan_defs.specs.Valid.{IsValid}
use Rattle.plan_defs.proofs.Lower.{Further, supported_further, block_further, front_propagated}
use Rattle.plan_defs.proofs.Knowing.{known_or_not}
use Rattle.eu_name.proofs.Ordered.{contains_none}
use Rattle.model_core.proofs.Blocks.{block_once}
use Rattle.plan_defs.proofs.Settling.{IsSettled-push}
use Rattle.plan_defs.proofs.States.{IsBelow-trans}
use Rattle.plan_defs.proofs.Reservoirs.{reservoirs_above}
use Rattle.plan_defs.proofs.Resources.{reusables_above}
use Rattle.plan_defs.specs.Flaws.{HasFlaw}
use Rattle.plan_defs.specs.StatePlans.{IsStatePlan}
use Rattle.plan_defs.proofs.Deciding.{decides_once}
use Rattle.law_states.specs.Soundness.{IsWellFounded, IsFlawlessPlan}
use Rattle.law_states.proofs.Agreeing.{agrees}
use Rattle.law_states.proofs.Clauses.{is_valid}
use Rattle.law_states.proofs.Joining.{upper}
use Rattle.law_states.proofs.Known.{known_below}
use Rattle.law_states.proofs.Pruning.{IsSupportedVariable, IsSupportedArgument, AreNamedSupported, root_supported, founded}

-- ---- what a decision names

-- what the state knows is supported where all that is in the state is
module _ (model : Model) (situation : Situation) (state : State) (is_state : IsState model state)
    (tokens : (token : TokenName) → Contains state.tokens token → IsSupportedToken model situation token)
    (blocks : (block : TokenBlock) → Contains state.blocks block → (entries : Entries) × IsSupportedBlock model situation block entries) where
  variable_supported : (name : VarName) → IsAbout model state name → IsSupportedVariable model situation name
  variable_supported (names.Global number) about = tt
  variable_supported (names.Token token part) about = tokens token about.0
  variable_supported (names.Local token rule number) about =
      let supported = blocks about.block about.is_open in
      let same = block_once model _ _ about.block about.entries supported.0 about.is_block supported.1.is_open.has_block in
      record {
        block = about.block;
        of_token = about.of_token;
        of_rule = about.of_rule;
        entries = supported.0;
        supported = supported.1;
        stands = subst (λ (e : Entries). Contains (direct e) (OfLocal number)) same about.stands;
      }

  argument_supported : (argument : ConArg) → IsArgumentKnown state argument → IsSupportedArgument model situation argument
  argument_supported (Var name) known = variable_supported name ((is_state.variables name).1 known)
  argument_supported (Value value) known = tt

  named_supported : (decision : Decision) → IsKnown state decision → AreNamedSupported model situation decision
  named_supported (Specify name value) known = tt
  named_supported (Activate token) known = tokens token known
  named_supported (Merge token target) known = (tokens token known.0, tokens target known.1)
  named_supported (Reject token) known = tokens token known
  named_supported (Order one other) known = (tokens one known.0, tokens other known.1)
  named_supported (Constrain kind arguments) known =
      All-weaker (IsArgumentKnown state) (IsSupportedArgument model situation) argument_supported arguments known
  named_supported (Relate relation one other) known = (tokens one known.0, tokens other known.1)

-- ---- least states

-- the state is above every propagated one, has what the decisions name, and nothing that isn't supported
record IsTopFounded (model : Model) (decisions : List Decision) (state : State) : Type 0 where
  above : (other : State) → IsPropagatedState model decisions other → IsBelow state other
  known : (decision : Decision) → Contains decisions decision → IsKnown state decision
  tokens : (token : TokenName) → Contains state.tokens token → IsSupportedToken model (situation_of decisions state) token
  blocks : (block : TokenBlock) → Contains state.blocks block → (entries : Entries) × IsSupportedBlock model (situation_of decisions state) block entries

module _ (model : Model) (lawful : IsLawful model) where
  apart : (decisions : List Decision) → IsSettled model decisions → (token : TokenName) → IsRejected decisions token → IsTaken decisions token → ⊥
  apart decisions settled token rejected (inl activated) =
      let same = (decides_once model decisions settled).one token (Reject token) (Activate token) rejected activated refl refl in absurd (cc)
  apart decisions settled token rejected (inr merged) =
      let same = (decides_once model decisions settled).one token (Reject token) (Merge token merged.0) rejected merged.1 refl refl in absurd (cc)

  module _ (decisions : List Decision) (state : State) (settled : IsSettled model decisions) (least : IsLeast model decisions state)
      (there : (other : State) → IsPropagatedState model decisions other → (decision : Decision) → Contains decisions decision → IsKnown other decision)
      (named : (decision : Decision) → Contains decisions decision → AreNamedSupported model (situation_of decisions state) decision) where
    active_there : (other : State) → IsPropagatedState model decisions other → (token : TokenName) → IsActive model decisions token → Contains other.tokens token
    active_there other fit token (inl fact) = fit.tokens token (root_supported model decisions other token fact.1.0 fact.0 fact.1.1)
    active_there other fit token (inr activated) = there other fit (Activate token) activated

    -- what is propagated and has the least state below it is closed
    closed_above : (high : State) → IsPropagatedState model decisions high → IsBelow high state → IsClosed model decisions high
    closed_above high fit below = record {
      consistent = fit;
      reusables = reusables_above model decisions high state fit.is_state least.closed.consistent.is_state below least.closed.reusables;
      reservoirs = reservoirs_above model decisions high state fit least.closed.consistent below
          (record { apart = apart decisions settled; active = active_there high fit }) least.closed.reservoirs;
    }

    top_founded : IsTopFounded model decisions state
    top_founded =
        let low = founded model decisions state lawful least.closed.consistent named (apart decisions settled) least.closed in
        let below = least.below low.low low.closed in
        record {
          above = λ other fit.
              let up = upper model decisions lawful state other least.closed.consistent fit in
              IsBelow-trans state up.upper other (least.below up.upper (closed_above up.upper up.consistent up.one_below)) up.other_below;
          known = there state least.closed.consistent;
          tokens = λ token is. low.tokens token (below.tokens token is);
          blocks = λ block is. low.blocks block (below.blocks block is);
        }

  -- ---- lists

  abbrev AreTopFounded : List Decision → Type 0
  AreTopFounded decisions = (state : State) → IsLeast model decisions state → IsTopFounded model decisions state

  -- one more
  module _ (kept : List Decision) (next : Decision) (settled : IsSettled model kept) (all : AreTopFounded kept) (admissible : IsAdmissible model kept next) where
    abbrev longer : List Decision
    longer = kept ++ next ∷ []

    before : IsTopFounded model kept admissible.state
    before = all admissible.state admissible.least

    known_before : (decision : Decision) → Contains longer decision → IsKnown admissible.state decision
    known_before decision there = elim (Contains-push_cases kept next decision there) [
      | inl old ↦ before.known decision old
      | inr same ↦ elim (known_or_not admissible.state next) [
        | inl known ↦ subst (IsKnown admissible.state) same known
        | inr none ↦ absurd (admissible.free Unknown none)
      ]
    ]

    next_below : (other : State) → IsPropagatedState model longer other → IsBelow admissible.state other
    next_below other fit = before.above other (front_propagated model kept (next ∷ []) other fit)

    further : (other : State) → IsBelow admissible.state other → Further (situation_of kept admissible.state) (situation_of longer other)
    further other below = record {
      taken = λ token taken. ⊎_elim (λ activated. inl (Contains-append_left kept (next ∷ []) (Activate token) activated))
          (λ merged. inr (merged.0, Contains-append_left kept (next ∷ []) (Merge token merged.0) merged.1)) taken;
      activated = λ token activated. Contains-append_left kept (next ∷ []) (Activate token) activated;
      gives = below.variables;
    }

    next_founded : AreTopFounded longer
    next_founded state least =
        let below = next_below state least.closed.consistent in
        let rises = further state below in
        top_founded longer state (IsSettled-push model kept next settled admissible) least
        (λ other fit decision there. known_below admissible.state other (next_below other fit) decision (known_before decision there))
        (λ decision there. named_supported model (situation_of longer state) admissible.state admissible.least.closed.consistent.is_state
        (λ token is. supported_further model (situation_of kept admissible.state) (situation_of longer state) rises token (before.tokens token is))
        (λ block is.
        let old = before.blocks block is in
        (old.0, block_further model (situation_of kept admissible.state) (situation_of longer state) rises block old.0 old.1))
        decision (known_before decision there))

  settled_after : (kept decisions settled : List Decision) → IsSettled model kept → AreTopFounded kept → SettlesAfter model kept decisions settled → AreTopFounded settled
  settled_after kept [] settled is all same = subst AreTopFounded (sym same) all
  settled_after kept (next ∷ decisions) settled is all (inl stays) =
      settled_after (kept ++ next ∷ []) decisions settled (IsSettled-push model kept next is stays.0) (next_founded kept next is all stays.0) stays.1
  settled_after kept (next ∷ decisions) settled is all (inr goes) = settled_after kept decisions settled is all goes.1

  none_founded : AreTopFounded []
  none_founded state least = top_founded [] state refl least (λ other fit decision there. absurd (contains_none decision there)) (λ decision there. absurd (contains_none decision there))

  all_founded : (decisions : List Decision) → IsSettled model decisions → AreTopFounded decisions
  all_founded decisions settled = settled_after [] decisions decisions refl none_founded settled

-- ---- the laws

pub least_above : (model : Model) (decisions : List Decision) (state other : State) → IsLawful model → IsSettled model decisions → IsLeast model decisions state
    → IsPropagatedState model decisions other → IsBelow state other
least_above model decisions state other lawful settled least = (all_founded model lawful decisions settled state least).above other

pub well_founded : (model : Model) (decisions : List Decision) (state : State) → IsLawful model → IsSettled model decisions → IsLeast model decisions state
    → IsWellFounded model decisions state
well_founded model decisions state lawful settled least =
    let is = all_founded model lawful decisions settled state least in
    record { known = is.known; tokens = is.tokens; blocks = is.blocks }

pub plan_is_valid : (model : Model) (decisions : List Decision) (state : State) (plan : Plan) → IsLawful model → IsSettled model decisions → IsLeast model decisions state
    → (HasFlaw model decisions state → ⊥) → IsStatePlan model decisions state plan → IsValid model plan × AgreesWith model plan decisions
plan_is_valid model decisions state plan lawful settled least flawless is_plan =
    let is : IsFlawlessPlan model decisions state plan = record {
      settled = record { lawful = lawful; settled = settled; consistent = least.closed.consistent };
      founded = well_founded model decisions state lawful settled least;
      flawless = flawless;
      is_plan = is_plan;
    } in
    (is_valid model decisions state plan is least.closed, agrees model decisions state plan is)
