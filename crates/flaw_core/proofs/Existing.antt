-- Each first flaw has a list of choices.
use Rattle.std.proofs.Common.{◌≡◌, ℕ, length, inl, inr, List, [], ◌∷◌, ◌++◌, Option, Some, None, refl, sym, ap, ◌∙◌, subst, arith}
use Rattle.std.specs.Prelude.{Contains, slice_get, map, MatchOption}
use Rattle.std.proofs.lemmas.Bool.{cases_lt, cases_eq}
use Rattle.std.proofs.lemmas.List.Elements.{All-contains}
use Rattle.eu_name.specs.declared.name.Step.{Step}
use Rattle.eu_name.specs.declared.name.TokenName.{TokenName}
use Rattle.model_core.specs.declared.decision.Decision.{Decision}
use Rattle.model_core.specs.declared.decision.Decision.TheVariants.{Activate, Merge, Reject, Order}
use Rattle.model_core.specs.declared.model.Model.{Model}
use Rattle.model_core.specs.declared.model.Root.{Root}
use Rattle.model_core.specs.declared.model.RootKind.{RootKind}
use Rattle.model_core.specs.declared.model.RootKind.TheVariants.{Goal, Rejectable, Fact}
use Rattle.model_core.specs.declared.rule.Slot.{Slot}
use Rattle.model_core.specs.Decided.{IsActive}
use Rattle.model_core.specs.State.{State}
use Rattle.model_core.specs.Tokens.{HasToken, IsRejectable}
use Rattle.model_core.specs.Views.{IsTokenAt}
use Rattle.model_core.proofs.Leading.{token_once}
use Rattle.plan_defs.specs.Refusals.{AreActive, HaveSamePredicate}
use Rattle.plan_defs.proofs.Knowing.{IsOrNot, both_or_not}
use Rattle.plan_defs.proofs.States.{gives_domain}
use Rattle.law_search.proofs.Grounding as grounds
use Rattle.plan_defs.specs.Flaws.{Flaw, Undecided, Undetermined, Unordered, Untimed, IsFlaw}
use Rattle.plan_defs.proofs.Telling.{one_at}
use Rattle.law_search.specs.Choices.{IsActivationLeft, IsRejectionLeft, AreTokenChoices, AreChoices}
use Rattle.flaw_core.specs.declared.flaw.Flaw as by_places
use Rattle.flaw_core.specs.declared.flaw.Flaw.TheVariants as flaws
use Rattle.flaw_core.specs.declared.flaw.VarPlace.{VarPlace}
use Rattle.flaw_core.specs.Gathering.{IsTarget}
use Rattle.flaw_core.specs.Places.{IsFlawAt}
use Rattle.flaw_core.specs.Rules.{IsLeastFor, IsFirstAt, AreChoicesAt}
use Rattle.flaw_core.specs.Seeking.{FindsFirst, IsAnyFlaw}
use Rattle.flaw_core.proofs.Finding.{first_of_any}
use Rattle.flaw_core.proofs.Gathering.{all_that, active_when}
use Rattle.flaw_core.proofs.Sorting.{var_once}
use Rattle.flaw_core.proofs.Valuing.{value_choices}

-- ---- what can be told

rejectable_or_not : (model : Model) (token : TokenName) → IsOrNot (IsRejectable model token)
rejectable_or_not model token = by_steps token.steps refl
  where
    by_root : token.steps ≡ [] → (found : Option Root) → slice_get model.problem.roots token.root ≡ found → IsOrNot (IsRejectable model token)
    by_root none None e = inr (λ may. no_root may.1.0 (sym e ∙ may.1.1))
      where
        no_root : (root : Root) → None ≡ Some root → ⊥
        no_root root same = cc
    by_root none (Some root) e = by_kind root.kind refl
      where
        same_root : (a b : Root) → Some a ≡ Some b → a ≡ b
        same_root a b same = cc

        by_kind : (kind : RootKind) → root.kind ≡ kind → IsOrNot (IsRejectable model token)
        by_kind Rejectable is = inl (none, (root, e, is))
        by_kind Goal is = inr (λ may.
            let kinds : Goal ≡ Rejectable = sym is ∙ ap (λ (r : Root). r.kind) (same_root root may.1.0 (sym e ∙ may.1.1)) ∙ may.1.2 in absurd (cc))
        by_kind Fact is = inr (λ may.
            let kinds : Fact ≡ Rejectable = sym is ∙ ap (λ (r : Root). r.kind) (same_root root may.1.0 (sym e ∙ may.1.1)) ∙ may.1.2 in absurd (cc))

    by_steps : (steps : List Step) → token.steps ≡ steps → IsOrNot (IsRejectable model token)
    by_steps [] none = by_root none (slice_get model.problem.roots token.root) refl
    by_steps (step ∷ steps) some = inr (λ may. no_step step steps (sym some ∙ may.0))
      where
        no_step : (step : Step) (steps : List Step) → step ∷ steps ≡ [] → ⊥
        no_step step steps same = cc

module _ (model : Model) (decisions : List Decision) (state : State) (least : IsLeastFor model decisions state) where
  has_slot : (token : TokenName) → Contains state.tokens token → (slot : Slot) × HasToken model token slot
  has_slot token there = All-contains (λ t. (slot : Slot) × HasToken model t slot) state.tokens token least.least.closed.consistent.is_state.tokens there

  pub active_or_not : (token : TokenName) → IsOrNot (IsActive model decisions token)
  active_or_not token = grounds.active_or_not model decisions token

  pub of_pred_or_not : (pred : ℕ) (token : TokenName) → Contains state.tokens token → IsOrNot ((slot : Slot) × HasToken model token slot × (slot.pred ≡ pred))
  of_pred_or_not pred token there =
      let own = has_slot token there in
      elim (cases_eq own.0.pred pred) [
        | inl same ↦ inl (own.0, own.1, same)
        | inr differ ↦ inr (λ is. differ (ap (λ (s : Slot). s.pred) (token_once model token own.0 is.0 own.1 is.1) ∙ is.2))
      ]

  same_pred_or_not : (token other : TokenName) → Contains state.tokens token → Contains state.tokens other → IsOrNot (HaveSamePredicate model token other)
  same_pred_or_not token other there here =
      let own = has_slot token there in
      elim (of_pred_or_not own.0.pred other here) [
        | inl is ↦ inl (record { slot = own.0; other_slot = is.0; has_one = own.1; has_other = is.1; same = sym is.2 })
        | inr not ↦ inr (λ same.
            let slots = token_once model token same.slot own.0 same.has_one own.1 in
            not (same.other_slot, same.has_other, sym same.same ∙ ap (λ (s : Slot). s.pred) slots))
      ]

  full_or_not : (bound : ℕ) → IsOrNot (AreActive model decisions bound)
  full_or_not bound =
      let active = all_that (IsActive model decisions) state least.least.closed.consistent.is_state.order (λ token there. active_or_not token) in
      elim (cases_lt (length active.0) bound) [
        | inl fewer ↦ inr (λ are. omega (arith, fewer, (active_when model decisions state least bound active.0 active.1).1 are))
        | inr enough ↦ inl ((active_when model decisions state least bound active.0 active.1).0 enough)
      ]

  -- ---- lists of choices

  activation_left : (bound : ℕ) (token : TokenName) → IsOrNot (AreActive model decisions bound) → (choices : List Decision) × IsActivationLeft model decisions bound token choices
  activation_left bound token (inl full) = ([], inr (full, refl))
  activation_left bound token (inr room) = (Activate token ∷ [], inl (room, refl))

  rejection_left : (token : TokenName) → IsOrNot (IsRejectable model token) → (choices : List Decision) × IsRejectionLeft model token choices
  rejection_left token (inl may) = (Reject token ∷ [], inl (may, refl))
  rejection_left token (inr not) = ([], inr (not, refl))

  token_choices : (bound : ℕ) (token : TokenName) → Contains state.tokens token → (choices : List Decision) × AreTokenChoices model decisions state bound token choices
  token_choices bound token there =
      let targets = all_that (λ t. IsActive model decisions t × HaveSamePredicate model token t) state least.least.closed.consistent.is_state.order
      (λ t here. both_or_not (IsActive model decisions t) (HaveSamePredicate model token t) (active_or_not t) (same_pred_or_not token t there here)) in
      let activation = activation_left bound token (full_or_not bound) in
      let rejection = rejection_left token (rejectable_or_not model token) in (
        map (λ target. Merge token target) targets.0 ++ (activation.0 ++ rejection.0),
        record {
          targets = targets.0;
          are_targets = record { order = targets.1.order; are = targets.1.are };
          activation = activation.0;
          activated = activation.1;
          rejection = rejection.0;
          rejected = rejection.1;
          are = refl;
        },
      )

  choices_of : (bound : ℕ) (flaw : Flaw) → IsFlaw model decisions state flaw → (choices : List Decision) × AreChoices model decisions state bound flaw choices
  choices_of bound (Undecided token) is = token_choices bound token is.0
  choices_of bound (Undetermined name) is =
      value_choices state least.least.closed.consistent.is_state.order name is.1.domain (gives_domain model state least.least.closed.consistent.is_state name is.1.domain is.1.gives) is.1.gives
  choices_of bound (Unordered one other) is = (Order one other ∷ Order other one ∷ [], refl)
  choices_of bound (Untimed name) is =
      value_choices state least.least.closed.consistent.is_state.order name is.1.domain (gives_domain model state least.least.closed.consistent.is_state name is.1.domain is.1.gives) is.1.gives

  -- ---- one flaw at its places

  token_at_once : (place : ℕ) (token : TokenName) (other : Flaw) → IsTokenAt state place token → IsFlawAt state (flaws.Token place) other → Undecided token ≡ other
  token_at_once place token (Undecided behind) p q = ap Undecided (one_at state place token behind p q)
  token_at_once place token other p q = absurd q

  value_at_once : (at : VarPlace) (other : Flaw) → IsFlawAt state (flaws.Value at) other → (flaw : Flaw) → IsFlawAt state (flaws.Value at) flaw → flaw ≡ other
  value_at_once at (Undetermined name) q (Undetermined own) p = ap Undetermined (var_once state at own name p q)
  value_at_once at (Undetermined name) q flaw p = absurd p
  value_at_once at other q flaw p = absurd q

  time_at_once : (at : VarPlace) (other : Flaw) → IsFlawAt state (flaws.Time at) other → (flaw : Flaw) → IsFlawAt state (flaws.Time at) flaw → flaw ≡ other
  time_at_once at (Untimed name) q (Untimed own) p = ap Untimed (var_once state at own name p q)
  time_at_once at (Untimed name) q flaw p = absurd p
  time_at_once at other q flaw p = absurd q

  pair_at_once : (m n : ℕ) (other : Flaw) → IsFlawAt state (flaws.Pair m n) other → (flaw : Flaw) → IsFlawAt state (flaws.Pair m n) flaw → flaw ≡ other
  pair_at_once m n (Unordered a b) q (Unordered c d) p = λ i. Unordered (one_at state m c a p.0 q.0 i) (one_at state n d b p.1 q.1 i)
  pair_at_once m n (Unordered a b) q flaw p = absurd p
  pair_at_once m n other q flaw p = absurd q

  undecided_at_once : (place : ℕ) (other : Flaw) → IsFlawAt state (flaws.Token place) other → (flaw : Flaw) → IsFlawAt state (flaws.Token place) flaw → flaw ≡ other
  undecided_at_once place other q (Undecided token) p = token_at_once place token other p q
  undecided_at_once place other q flaw p = absurd p

  flaw_once : (found : by_places.Flaw) (flaw other : Flaw) → IsFlawAt state found flaw → IsFlawAt state found other → flaw ≡ other
  flaw_once (flaws.Token place) flaw other p q = undecided_at_once place other q flaw p
  flaw_once (flaws.Value at) flaw other p q = value_at_once at other q flaw p
  flaw_once (flaws.Pair m n) flaw other p q = pair_at_once m n other q flaw p
  flaw_once (flaws.Time at) flaw other p q = time_at_once at other q flaw p

  pub choices_exist : (bound : ℕ) (found : by_places.Flaw) → IsFirstAt model decisions state (Some found) → (choices : List Decision) × AreChoicesAt model decisions state bound found choices
  choices_exist bound found (flaw, here, first) =
      let made = choices_of bound flaw first.is in
      (made.0, λ other there. subst (λ (f : Flaw). AreChoices model decisions state bound f made.0) (flaw_once found flaw other here there) made.1)

-- whether a token of the state is a target can be told
pub target_or_not : (known model : Model) (decisions : List Decision) (state : State) → known ≡ model → IsLeastFor known decisions state → (pred : ℕ) (token : TokenName)
    → Contains state.tokens token → IsOrNot (IsTarget model decisions pred token)
target_or_not known model decisions state same least pred token there =
    let own = subst (λ (m : Model). IsLeastFor m decisions state) same least in
    both_or_not (IsActive model decisions token) ((slot : Slot) × HasToken model token slot × (slot.pred ≡ pred)) (active_or_not model decisions state own token) (of_pred_or_not model decisions state own pred token there)

-- ---- the rule of the stated order

module _ (known model : Model) (same : known ≡ model) (decisions : List Decision) (state : State) where
  pub first_told : (found : Option by_places.Flaw) → FindsFirst known decisions state IsAnyFlaw found → IsFirstAt model decisions state found
  first_told found is = subst (λ (m : Model). IsFirstAt m decisions state found) same (first_of_any known decisions state found is)

  pub choices_told : IsLeastFor model decisions state → (bound : ℕ) (found : Option by_places.Flaw) → IsFirstAt model decisions state found
      → MatchOption found (Unit {0}) (λ flaw. (choices : List Decision) × AreChoicesAt model decisions state bound flaw choices)
  choices_told least bound None first = tt
  choices_told least bound (Some found) first = choices_exist model decisions state least bound found first
