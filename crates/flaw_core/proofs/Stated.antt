-- By the rule of the stated order, the search is the stated one.
use Rattle.std.proofs.Common.{ℕ, zero, suc, ◌↔◌, inl, inr, Bool, true, false, List, [], ◌∷◌, ◌++◌, MatchBool}
use Rattle.model_core.specs.declared.decision.Decision.{Decision}
use Rattle.model_core.specs.declared.model.Model.{Model}
use Rattle.model_core.specs.State.{State}
use Rattle.plan_defs.specs.Flaws as named
use Rattle.law_search.specs.Choices.{IsLeftOut}
use Rattle.law_search.specs.Search.{SearchOutcome, VisitsEach, TellsLeftOut, LooksAtFlaw, IsVisitOf}
use Rattle.flaw_core.specs.declared.flaw.Flaw.{Flaw}
use Rattle.flaw_core.specs.declared.flaw.Flaw.TheVariants.{Token, Value, Pair, Time}
use Rattle.flaw_core.specs.Places.{IsFlawAt}
use Rattle.flaw_core.specs.Rules.{LeavesOut, IsFirstAt, AreChoicesAt}
use Rattle.flaw_core.specs.ByRule.{ReadsFlaw, IsVisitBy}

module _ (model : Model) (bound : ℕ) where
  left_same : (decisions : List Decision) (state other : State) (found : Flaw) (flaw : named.Flaw) → IsFlawAt state found flaw
      → IsLeftOut model decisions other bound flaw ↔ LeavesOut model decisions bound found
  left_same decisions state other (Token place) (named.Undecided token) at = (λ left. left, λ left. left)
  left_same decisions state other (Value place) (named.Undetermined name) at = (λ left. absurd left, λ left. absurd left)
  left_same decisions state other (Pair place behind) (named.Unordered one after) at = (λ left. absurd left, λ left. absurd left)
  left_same decisions state other (Time place) (named.Untimed name) at = (λ left. absurd left, λ left. absurd left)
  left_same decisions state other found flaw at = absurd at

  tells_named : (decisions : List Decision) (state : State) (found : Flaw) (flaw : named.Flaw) (out : Bool) → IsFlawAt state found flaw
      → MatchBool out (LeavesOut model decisions bound found) (LeavesOut model decisions bound found → ⊥) → TellsLeftOut model decisions bound flaw out
  tells_named decisions state found flaw true at tells = λ other. (left_same decisions state other found flaw at).1 tells
  tells_named decisions state found flaw false at tells = λ other left. tells ((left_same decisions state other found flaw at).0 left)

  each_named : (One Other : ℕ → List Decision → SearchOutcome → Type 0)
      → ((units : ℕ) (decisions : List Decision) (outcome : SearchOutcome) → One units decisions outcome → Other units decisions outcome)
      → (decisions choices : List Decision) (units : ℕ) (out : Bool) (outcome : SearchOutcome)
      → VisitsEach One decisions choices units out outcome → VisitsEach Other decisions choices units out outcome
  each_named One Other inner decisions [] units out outcome visits = visits
  each_named One Other inner decisions (choice ∷ choices) units out outcome (first, visit, inl (failed, rest)) =
      (first, inner units (decisions ++ choice ∷ []) first visit, inl (failed, each_named One Other inner decisions choices first.left _ outcome rest))
  each_named One Other inner decisions (choice ∷ choices) units out outcome (first, visit, inr ended) =
      (first, inner units (decisions ++ choice ∷ []) first visit, inr ended)

  flaw_named : (One Other : ℕ → List Decision → SearchOutcome → Type 0)
      → ((units : ℕ) (decisions : List Decision) (outcome : SearchOutcome) → One units decisions outcome → Other units decisions outcome)
      → (decisions : List Decision) (state : State) (units : ℕ) (outcome : SearchOutcome)
      → ReadsFlaw IsFirstAt AreChoicesAt model bound One decisions state units outcome → LooksAtFlaw model bound Other decisions state units outcome
  flaw_named One Other inner decisions state units outcome reads = record {
    flaw = reads.is_first.0;
    is_first = reads.is_first.2;
    choices = reads.choices;
    are = reads.are reads.is_first.0 reads.is_first.1;
    out = reads.out;
    tells = tells_named decisions state reads.flaw reads.is_first.0 reads.out reads.is_first.1 reads.tells;
    visits = each_named One Other inner decisions reads.choices units reads.out outcome reads.visits;
  }

  pub visit_named : (depth units : ℕ) (decisions : List Decision) (outcome : SearchOutcome)
      → IsVisitBy IsFirstAt AreChoicesAt model bound depth units decisions outcome → IsVisitOf model bound depth units decisions outcome
  visit_named depth zero decisions outcome visit = visit
  visit_named zero (suc units) decisions outcome visit = absurd visit
  visit_named (suc depth) (suc units) decisions outcome (inl collapsed) = inl collapsed
  visit_named (suc depth) (suc units) decisions outcome (inr reads) = inr (record {
    state = reads.state;
    least = reads.least;
    looks = elim reads.reads [
      | inl found ↦ inl found
      | inr at ↦ inr (flaw_named (IsVisitBy IsFirstAt AreChoicesAt model bound depth) (IsVisitOf model bound depth) (visit_named depth) decisions reads.state units outcome at)
    ];
  })
