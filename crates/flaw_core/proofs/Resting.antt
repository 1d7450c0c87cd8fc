-- What is left of a search, one step after another.
use Rattle.std.proofs.Common.{◌≡◌, ℕ, suc, ◌⊎◌, inl, inr, Bool, true, false, ◌||◌, List, [], ◌∷◌, ◌++◌, MatchBool, Option, Some, None, refl, sym, ap, ◌∙◌, subst}
use Rattle.model_core.specs.declared.decision.Decision.{Decision}
use Rattle.model_core.specs.declared.model.Model.{Model}
use Rattle.model_core.specs.State.{State}
use Rattle.plan_defs.specs.Closure.{IsLeast, IsCollapsed}
use Rattle.law_search.specs.Search.{SearchOutcome, Finds, Fails, Stops, VisitsEach, also_left_out}
use Rattle.law_search.proofs.Searching.{stops_not_fails, finds_not_fails}
use Rattle.flaw_core.specs.declared.flaw.Flaw.{Flaw}
use Rattle.flaw_core.specs.Rules.{LeavesOut}
use Rattle.flaw_core.specs.ByRule.{IsVisitBy}
use Rattle.flaw_core.specs.Rest.{LeftOver, SearchesOn, VisitsFirst}

or_assoc : (a b c : Bool) → ((a || b) || c) ≡ (a || (b || c))
or_assoc true b c = refl
or_assoc false b c = refl

or_false : (a : Bool) → (a || false) ≡ a
or_false true = refl
or_false false = refl

-- what was left out before the choices can be counted behind them
adds_out : (Visit : ℕ → List Decision → SearchOutcome → Type 0) (decisions choices : List Decision) (units : ℕ) (before out : Bool) (outcome : SearchOutcome)
    → VisitsEach Visit decisions choices units (before || out) outcome
    → (own : SearchOutcome) × VisitsEach Visit decisions choices units out own × (outcome ≡ also_left_out before own)
adds_out Visit decisions [] units before out outcome visits = (record { ending = Fails; left = units; left_out = out }, refl, visits)
adds_out Visit decisions (choice ∷ choices) units before out outcome (first, visit, inl (failed, rest)) =
    let later = adds_out Visit decisions choices first.left before (out || first.left_out) outcome
    (subst (λ b. VisitsEach Visit decisions choices first.left b outcome) (or_assoc before out first.left_out) rest) in
    (later.0, (first, visit, inl (failed, later.1)), later.2)
adds_out Visit decisions (choice ∷ choices) units before out outcome (first, visit, inr (ended, same)) = (
  also_left_out out first,
  (first, visit, inr (ended, refl)),
  same ∙ ap (λ b. record { ending = first.ending; left = first.left; left_out = b }) (or_assoc before out first.left_out),
)

-- ---- choices

module _ (Visit : ℕ → ℕ → List Decision → SearchOutcome → Type 0) (depth : ℕ) where
  pub takes_choice : (decisions choices : List Decision) (choice : Decision) (lefts : List LeftOver) (units : ℕ) (out : Bool) (outcome : SearchOutcome)
      → VisitsFirst Visit depth (decisions ++ choice ∷ []) (record { decisions = decisions; choices = choices } ∷ lefts) units out outcome
      → SearchesOn Visit depth (record { decisions = decisions; choices = choice ∷ choices } ∷ lefts) units out outcome
  takes_choice decisions choices choice lefts units out outcome (first, visit, inl (failed, goes)) =
      (goes.0, (first, visit, inl (failed, goes.1)), goes.2)
  takes_choice decisions choices choice lefts units out outcome (first, visit, inr (ended, same)) =
      (also_left_out out first, (first, visit, inr (ended, refl)), inr (ended, same))

  pub leaves_flaw : (decisions : List Decision) (lefts : List LeftOver) (units : ℕ) (out : Bool) (outcome : SearchOutcome)
      → SearchesOn Visit (suc depth) lefts units out outcome → SearchesOn Visit depth (record { decisions = decisions; choices = [] } ∷ lefts) units out outcome
  leaves_flaw decisions lefts units out outcome goes = (record { ending = Fails; left = units; left_out = out }, refl, inl (refl, goes))

  -- nothing is above the first list
  pub begins : (decisions : List Decision) (units : ℕ) (outcome : SearchOutcome) → VisitsFirst Visit depth decisions [] units false outcome → Visit depth units decisions outcome
  begins decisions units outcome (first, visit, inl (failed, same)) =
      let fails : record { ending = Fails; left = first.left; left_out = first.left_out } ≡ first = λ i. record { ending = sym failed i; left = first.left; left_out = first.left_out } in
      subst (Visit depth units decisions) (sym (same ∙ fails)) visit
  begins decisions units outcome (first, visit, inr (ended, same)) = subst (Visit depth units decisions) (sym same) visit

-- ---- visits by a rule

module _ (First : Model → List Decision → State → Option Flaw → Type 0)
    (Choices : Model → List Decision → State → ℕ → Flaw → List Decision → Type 0) (model : Model) (bound : ℕ) (depth : ℕ)
    (decisions : List Decision) (lefts : List LeftOver) (units : ℕ) (out : Bool) where
  -- the list collapses
  pub visits_collapsed : (outcome : SearchOutcome) → IsCollapsed model decisions
      → SearchesOn (IsVisitBy First Choices model bound) (suc depth) lefts units out outcome
      → VisitsFirst (IsVisitBy First Choices model bound) (suc depth) decisions lefts (suc units) out outcome
  visits_collapsed outcome collapsed goes = (
    record { ending = Fails; left = units; left_out = false },
    inl (collapsed, refl),
    inl (refl, subst (λ b. SearchesOn (IsVisitBy First Choices model bound) (suc depth) lefts units b outcome) (sym (or_false out)) goes),
  )

  -- the rule finds a flaw
  pub visits_flaw : (outcome : SearchOutcome) (state : State) (flaw : Flaw) (choices : List Decision) (own : Bool) → IsLeast model decisions state → First model decisions state (Some flaw)
      → Choices model decisions state bound flaw choices → MatchBool own (LeavesOut model decisions bound flaw) (LeavesOut model decisions bound flaw → ⊥)
      → SearchesOn (IsVisitBy First Choices model bound) depth (record { decisions = decisions; choices = choices } ∷ lefts) units (out || own) outcome
      → VisitsFirst (IsVisitBy First Choices model bound) (suc depth) decisions lefts (suc units) out outcome
  visits_flaw outcome state flaw choices own least is_first are tells (all, visits, which) =
      let apart = adds_out (IsVisitBy First Choices model bound depth) decisions choices units out own all visits in (
        apart.0,
        inr (record {
          state = state;
          least = least;
          reads = inr (record { flaw = flaw; is_first = is_first; choices = choices; are = are; out = own; tells = tells; visits = apart.1 });
        }),
        goes_on apart.0 apart.2 which,
      )
    where
      goes_on : (one : SearchOutcome) → all ≡ also_left_out out one
          → ((all.ending ≡ Fails) × SearchesOn (IsVisitBy First Choices model bound) (suc depth) lefts all.left all.left_out outcome) ⊎ ((all.ending ≡ Fails → ⊥) × (outcome ≡ all))
          → ((one.ending ≡ Fails) × SearchesOn (IsVisitBy First Choices model bound) (suc depth) lefts one.left (out || one.left_out) outcome) ⊎ ((one.ending ≡ Fails → ⊥) × (outcome ≡ also_left_out out one))
      goes_on one same (inl (failed, goes)) = inl (
        sym (ap (λ (o : SearchOutcome). o.ending) same) ∙ failed,
        subst (λ (o : SearchOutcome). SearchesOn (IsVisitBy First Choices model bound) (suc depth) lefts o.left o.left_out outcome) same goes,
      )
      goes_on one same (inr (ended, is)) = inr (λ failed. ended (ap (λ (o : SearchOutcome). o.ending) same ∙ failed), is ∙ same)

  -- it finds none
  pub visits_found : (state : State) → IsLeast model decisions state → First model decisions state None
      → VisitsFirst (IsVisitBy First Choices model bound) (suc depth) decisions lefts (suc units) out (record { ending = Finds decisions; left = units; left_out = out })
  visits_found state least none = (
    record { ending = Finds decisions; left = units; left_out = false },
    inr (record { state = state; least = least; reads = inl (none, refl) }),
    inr (finds_not_fails decisions, ap (λ b. record { ending = Finds decisions; left = units; left_out = b }) (sym (or_false out))),
  )

  -- no unit is left
  pub visits_none : VisitsFirst (IsVisitBy First Choices model bound) depth decisions lefts 0 out (record { ending = Stops; left = 0; left_out = out })
  visits_none = (
    record { ending = Stops; left = 0; left_out = false },
    refl,
    inr (stops_not_fails, ap (λ b. record { ending = Stops; left = 0; left_out = b }) (sym (or_false out))),
  )
