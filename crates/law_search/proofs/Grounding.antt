-- Settled lists name what is there by them, and so do their least states.
use Rattle.std.proofs.Common.{◌≡◌, ℕ, inl, inr, ⊎_elim, List, [], ◌∷◌, ◌++◌, Option, Some, None, refl, sym, ap, ◌∙◌, subst}
use Rattle.std.specs.Prelude.{Contains, slice_get}
use Rattle.std.proofs.lemmas.List.{append-nil}
use Rattle.std.proofs.lemmas.List.Elements.{All-contains, All-weaker, Contains-push_cases, Contains-append_left}
use Rattle.domain_core.specs.Domain.{Domain}
use Rattle.eu_name.specs.declared.name.Step.{Step}
use Rattle.eu_name.specs.declared.name.TokenName.{TokenName}
use Rattle.eu_name.specs.declared.name.VarName.{VarName}
use Rattle.eu_name.specs.declared.name.VarName.TheVariants as names
use Rattle.model_core.specs.declared.decision.ConArg.{ConArg}
use Rattle.model_core.specs.declared.decision.ConArg.TheVariants.{Var, Value}
use Rattle.model_core.specs.declared.decision.Decision.{Decision}
use Rattle.model_core.specs.declared.decision.Decision.TheVariants.{Specify, Activate, Merge, Reject, Order, Constrain, Relate}
use Rattle.model_core.specs.declared.model.Model.{Model}
use Rattle.model_core.specs.declared.model.Root.{Root}
use Rattle.model_core.specs.declared.model.RootKind.{RootKind}
use Rattle.model_core.specs.declared.model.RootKind.TheVariants.{Goal, Rejectable, Fact}
use Rattle.model_core.specs.Decided.{IsActivated, IsActive}
use Rattle.model_core.specs.State.{State, Gives, IsBlockOf}
use Rattle.model_core.specs.Tokens.{IsFact}
use Rattle.plan_defs.specs.Closure.{IsLeast}
use Rattle.plan_defs.specs.Refusals.{IsArgumentKnown, IsKnown, NeedsActive, IsAdmissible}
use Rattle.model_core.specs.declared.refusal.Refusal.TheVariants.{Unknown, NotActive}
use Rattle.plan_defs.specs.Settling.{SettlesAfter, IsSettled}
use Rattle.plan_defs.specs.Support.{front_token}
use Rattle.plan_defs.proofs.Counting.{not_impossible}
use Rattle.plan_defs.proofs.Knowing.{IsOrNot, same_token, known_or_not}
use Rattle.eu_name.proofs.Ordered.{contains_head, contains_later, contains_cases, contains_none}
use Rattle.law_search.specs.SwapLaws.{StandsUnderActive, IsOfActive, IsArgumentOfActive, IsGrounded}
use Rattle.law_search.proofs.Pruning.{token_kept, given_kept}
use Rattle.law_search.proofs.Leasts.{low_closed}

-- ---- whether a token is activated, and active

activates : (token : TokenName) (decision : Decision) → IsOrNot (decision ≡ Activate token)
activates token (Specify name value) = inr (λ same. cc)
activates token (Activate other) = elim (same_token other token) [
  | inl same ↦ inl (ap Activate same)
  | inr differ ↦ inr (λ same. differ (by_activate other token same))
]
  where
    by_activate : (a b : TokenName) → Activate a ≡ Activate b → a ≡ b
    by_activate a b same = cc
activates token (Merge other target) = inr (λ same. cc)
activates token (Reject other) = inr (λ same. cc)
activates token (Order one other) = inr (λ same. cc)
activates token (Constrain kind arguments) = inr (λ same. cc)
activates token (Relate relation one other) = inr (λ same. cc)

activated_or_not : (decisions : List Decision) (token : TokenName) → IsOrNot (IsActivated decisions token)
activated_or_not [] token = inr (λ there. contains_none (Activate token) there)
activated_or_not (decision ∷ decisions) token = elim (activates token decision) [
  | inl same ↦ inl (subst (λ (d : Decision). Contains (decision ∷ decisions) d) same (contains_head decision decisions))
  | inr differ ↦ elim (activated_or_not decisions token) [
    | inl later ↦ inl (contains_later decision (Activate token) decisions later)
    | inr none ↦ inr (λ there. ⊎_elim differ none (contains_cases decision (Activate token) decisions there))
  ]
]

fact_or_not : (model : Model) (token : TokenName) → IsOrNot (IsFact model token)
fact_or_not model token = by_steps token.steps refl
  where
    by_root : token.steps ≡ [] → (found : Option Root) → slice_get model.problem.roots token.root ≡ found → IsOrNot (IsFact model token)
    by_root none None e = inr (λ fact. no_root fact.1.0 (sym e ∙ fact.1.1))
      where
        no_root : (root : Root) → None ≡ Some root → ⊥
        no_root root same = cc
    by_root none (Some root) e = by_kind root.kind refl
      where
        same_root : (a b : Root) → Some a ≡ Some b → a ≡ b
        same_root a b same = cc

        by_kind : (kind : RootKind) → root.kind ≡ kind → IsOrNot (IsFact model token)
        by_kind Fact is = inl (none, (root, e, is))
        by_kind Goal is = inr (λ fact.
            let kinds : Goal ≡ Fact = sym is ∙ ap (λ (r : Root). r.kind) (same_root root fact.1.0 (sym e ∙ fact.1.1)) ∙ fact.1.2 in absurd (cc))
        by_kind Rejectable is = inr (λ fact.
            let kinds : Rejectable ≡ Fact = sym is ∙ ap (λ (r : Root). r.kind) (same_root root fact.1.0 (sym e ∙ fact.1.1)) ∙ fact.1.2 in absurd (cc))

    by_steps : (steps : List Step) → token.steps ≡ steps → IsOrNot (IsFact model token)
    by_steps [] none = by_root none (slice_get model.problem.roots token.root) refl
    by_steps (step ∷ steps) some = inr (λ fact. no_step step steps (sym some ∙ fact.0))
      where
        no_step : (step : Step) (steps : List Step) → step ∷ steps ≡ [] → ⊥
        no_step step steps same = cc

pub active_or_not : (model : Model) (decisions : List Decision) (token : TokenName) → IsOrNot (IsActive model decisions token)
active_or_not model decisions token = elim (fact_or_not model token) [
  | inl fact ↦ inl (inl fact)
  | inr not_fact ↦ elim (activated_or_not decisions token) [
    | inl activated ↦ inl (inr activated)
    | inr not ↦ inr (λ active. ⊎_elim not_fact not active)
  ]
]

active_if_possible : (model : Model) (decisions : List Decision) (token : TokenName) → ((IsActive model decisions token → ⊥) → ⊥) → IsActive model decisions token
active_if_possible model decisions token possible = not_impossible (active_or_not model decisions token) possible

-- ---- least states

module _ (model : Model) (decisions : List Decision) (state : State)
    (grounded : (decision : Decision) → Contains decisions decision → IsGrounded model decisions decision) (least : IsLeast model decisions state) where
  pub tokens_stand : (token : TokenName) → Contains state.tokens token → StandsUnderActive decisions token
  tokens_stand token there front step back are =
      not_impossible (activated_or_not decisions top) (λ idle.
      let below = least.below _ (low_closed model decisions state top grounded idle least.closed) in
      (token_kept top state token (below.tokens token there)).1 (step, (back, λ i. record { root = token.root; steps = are i })))
    where
      top : TokenName
      top = front_token token front

  owner_stands : (token : TokenName) (rule number : ℕ) (domain : Domain) → Gives state (names.Local token rule number) domain → IsActivated decisions token
  owner_stands token rule number domain gives =
      not_impossible (activated_or_not decisions token) (λ idle.
      let below = least.below _ (low_closed model decisions state token grounded idle least.closed) in
      let smaller = below.variables (names.Local token rule number) domain gives in
      (given_kept token state (names.Local token rule number) smaller.0 smaller.1).1 ([], λ i. record { root = token.root; steps = sym (append-nil token.steps) i }))

  pub variables_stand : (name : VarName) (domain : Domain) → Gives state name domain → IsOfActive decisions name
  variables_stand (names.Global number) domain gives = tt
  variables_stand (names.Token token part) domain gives =
      tokens_stand token ((least.closed.consistent.is_state.variables (names.Token token part)).1 (domain, gives)).0
  variables_stand (names.Local token rule number) domain gives =
      let about = (least.closed.consistent.is_state.variables (names.Local token rule number)).1 (domain, gives) in
      let of = All-contains (IsBlockOf model state) state.blocks about.block least.closed.consistent.is_state.blocks about.is_open in
      (owner_stands token rule number domain gives, tokens_stand token (subst (λ (t : TokenName). Contains state.tokens t) about.of_token of.0))

-- ---- lists

stands_longer : (kept : List Decision) (decision : Decision) (token : TokenName) → StandsUnderActive kept token → StandsUnderActive (kept ++ decision ∷ []) token
stands_longer kept decision token stands front step back are = Contains-append_left kept (decision ∷ []) _ (stands front step back are)

active_longer : (model : Model) (kept : List Decision) (decision : Decision) (token : TokenName) → IsActive model kept token → IsActive model (kept ++ decision ∷ []) token
active_longer model kept decision token (inl fact) = inl fact
active_longer model kept decision token (inr activated) = inr (Contains-append_left kept (decision ∷ []) _ activated)

of_active_longer : (kept : List Decision) (decision : Decision) (name : VarName) → IsOfActive kept name → IsOfActive (kept ++ decision ∷ []) name
of_active_longer kept decision (names.Global number) is = tt
of_active_longer kept decision (names.Token token part) is = stands_longer kept decision token is
of_active_longer kept decision (names.Local token rule number) is = (Contains-append_left kept (decision ∷ []) _ is.0, stands_longer kept decision token is.1)

argument_longer : (kept : List Decision) (decision : Decision) (argument : ConArg) → IsArgumentOfActive kept argument → IsArgumentOfActive (kept ++ decision ∷ []) argument
argument_longer kept decision (Var name) is = of_active_longer kept decision name is
argument_longer kept decision (Value value) is = tt

grounded_longer : (model : Model) (kept : List Decision) (last decision : Decision) → IsGrounded model kept decision → IsGrounded model (kept ++ last ∷ []) decision
grounded_longer model kept last (Specify name value) is = of_active_longer kept last name is
grounded_longer model kept last (Activate token) is = stands_longer kept last token is
grounded_longer model kept last (Merge token target) is =
    (stands_longer kept last token is.0, (stands_longer kept last target is.1.0, active_longer model kept last target is.1.1))
grounded_longer model kept last (Reject token) is = stands_longer kept last token is
grounded_longer model kept last (Order one other) is =
    ((stands_longer kept last one is.0.0, active_longer model kept last one is.0.1), (stands_longer kept last other is.1.0, active_longer model kept last other is.1.1))
grounded_longer model kept last (Constrain kind arguments) is =
    All-weaker (IsArgumentOfActive kept) (IsArgumentOfActive (kept ++ last ∷ [])) (argument_longer kept last) arguments is
grounded_longer model kept last (Relate relation one other) is = (stands_longer kept last one is.0, stands_longer kept last other is.1)

module _ (model : Model) (kept : List Decision) (grounded : (decision : Decision) → Contains kept decision → IsGrounded model kept decision) where
  module _ (state : State) (least : IsLeast model kept state) where
    token_stands : (token : TokenName) → Contains state.tokens token → StandsUnderActive kept token
    token_stands = tokens_stand model kept state grounded least

    argument_stands : (argument : ConArg) → IsArgumentKnown state argument → IsArgumentOfActive kept argument
    argument_stands (Var name) known = variables_stand model kept state grounded least name known.0 known.1
    argument_stands (Value value) known = tt

    -- what is known stands there by the list
    known_grounded : (decision : Decision) → IsKnown state decision → (NeedsActive model kept decision → ⊥) → IsGrounded model kept decision
    known_grounded (Specify name value) known free = variables_stand model kept state grounded least name known.0 known.1
    known_grounded (Activate token) known free = token_stands token known
    known_grounded (Merge token target) known free =
        (token_stands token known.0, (token_stands target known.1, active_if_possible model kept target free))
    known_grounded (Reject token) known free = token_stands token known
    known_grounded (Order one other) known free = (
      (token_stands one known.0, active_if_possible model kept one (λ not. free (inl not))),
      (token_stands other known.1, active_if_possible model kept other (λ not. free (inr not))),
    )
    known_grounded (Constrain kind arguments) known free =
        All-weaker (IsArgumentKnown state) (IsArgumentOfActive kept) argument_stands arguments known
    known_grounded (Relate relation one other) known free = (token_stands one known.0, token_stands other known.1)

  next_grounded : (decision : Decision) → IsAdmissible model kept decision → IsGrounded model kept decision
  next_grounded decision is =
      known_grounded is.state is.least decision (not_impossible (known_or_not is.state decision) (is.free Unknown)) (is.free NotActive)

  longer_grounded : (last : Decision) → IsAdmissible model kept last → (decision : Decision) → Contains (kept ++ last ∷ []) decision → IsGrounded model (kept ++ last ∷ []) decision
  longer_grounded last is decision there = elim (Contains-push_cases kept last decision there) [
    | inl before ↦ grounded_longer model kept last decision (grounded decision before)
    | inr same ↦ subst (IsGrounded model (kept ++ last ∷ [])) same (grounded_longer model kept last last (next_grounded last is))
  ]

settled_after : (model : Model) (kept decisions settled : List Decision) → ((decision : Decision) → Contains kept decision → IsGrounded model kept decision)
    → SettlesAfter model kept decisions settled → (decision : Decision) → Contains settled decision → IsGrounded model settled decision
settled_after model kept [] settled grounded is = λ decision there.
    subst (λ (l : List Decision). IsGrounded model l decision) (sym is) (grounded decision (subst (λ (l : List Decision). Contains l decision) is there))
settled_after model kept (next ∷ decisions) settled grounded (inl (admissible, rest)) =
    settled_after model (kept ++ next ∷ []) decisions settled (longer_grounded model kept grounded next admissible) rest
settled_after model kept (next ∷ decisions) settled grounded (inr (not, rest)) = settled_after model kept decisions settled grounded rest

pub settled_grounded : (model : Model) (decisions : List Decision) → IsSettled model decisions → (decision : Decision) → Contains decisions decision → IsGrounded model decisions decision
settled_grounded model decisions settled = settled_after model [] decisions decisions (λ decision there. absurd (contains_none decision there)) settled

pub least_tokens_stand : (model : Model) (decisions : List Decision) (state : State) (token : TokenName) → IsSettled model decisions → IsLeast model decisions state
    → Contains state.tokens token → StandsUnderActive decisions token
least_tokens_stand model decisions state token settled least there = tokens_stand model decisions state (settled_grounded model decisions settled) least token there

pub least_variables_stand : (model : Model) (decisions : List Decision) (state : State) (name : VarName) (domain : Domain) → IsSettled model decisions
    → IsLeast model decisions state → Gives state name domain → IsOfActive decisions name
least_variables_stand model decisions state name domain settled least gives = variables_stand model decisions state (settled_grounded model decisions settled) least name domain gives
