-- What a search by a lawful rule finds, and what its failure proves.
use Rattle.std.proofs.Common.{◌≡◌, ℕ, zero, suc, ◌≤◌, ◌⊎◌, inl, inr, ⊎_elim, Bool, true, false, List, ◌∷◌, [], ◌++◌, MatchBool, Option, Some, None, sym, ap, ◌∙◌, subst}
use Rattle.std.specs.Prelude.{Contains}
use Rattle.std.proofs.lemmas.List.{append-nil}
use Rattle.model_core.specs.declared.decision.Decision.{Decision}
use Rattle.model_core.specs.declared.model.Model.{Model}
use Rattle.model_core.specs.Lawful.{IsLawful}
use Rattle.model_core.specs.State.{State}
use Rattle.plan_defs.specs.declared.plan.Plan.{Plan}
use Rattle.plan_defs.specs.Refusals.{IsAdmissible}
use Rattle.plan_defs.specs.Closure.{IsLeast}
use Rattle.plan_defs.specs.Settling.{IsSettled}
use Rattle.plan_defs.proofs.Completing.{closed_state}
use Rattle.plan_defs.proofs.Settling.{IsSettled-push}
use Rattle.plan_defs.specs.Flaws.{HasFlaw}
use Rattle.law_search.specs.SwapLaws.{count_of_tokens}
use Rattle.law_states.proofs.Owning.{plan_state}
use Rattle.law_search.specs.Search.{SearchOutcome, Finds, Fails}
use Rattle.law_search.specs.SearchLaws.{IsPlanFor, IsFoundList, AgreesWithSome}
use Rattle.law_search.proofs.Searching.{fails_not_finds, stops_not_finds, stops_not_fails, finds_not_fails, finds_same, found_each, none_each, left_before}
use Rattle.flaw_core.specs.declared.flaw.Flaw.{Flaw}
use Rattle.flaw_core.specs.Rules.{IsLeastFor, LeavesOut, IsCoveredBy}
use Rattle.flaw_core.specs.ByRule.{ReadsFlaw, IsVisitBy}

module _ (First : Model → List Decision → State → Option Flaw → Type 0)
    (Choices : Model → List Decision → State → ℕ → Flaw → List Decision → Type 0) (model : Model) (lawful : IsLawful model) (bound : ℕ) (few : bound ≤ 512)
    (clears : (decisions : List Decision) (state : State) → IsLeastFor model decisions state → First model decisions state None → HasFlaw model decisions state → ⊥)
    (admits : (decisions : List Decision) (state : State) (flaw : Flaw) (choices : List Decision) (choice : Decision) → IsLeastFor model decisions state
    → First model decisions state (Some flaw) → Choices model decisions state bound flaw choices → Contains choices choice → IsAdmissible model decisions choice)
    (covers : (decisions : List Decision) (state : State) (flaw : Flaw) (choices : List Decision) (plan : Plan) → IsLeastFor model decisions state
    → First model decisions state (Some flaw) → Choices model decisions state bound flaw choices → IsPlanFor model decisions plan
    → IsCoveredBy model decisions bound flaw plan → AgreesWithSome model decisions choices plan) where
  -- a search by the rule, so deep
  abbrev By : ℕ → ℕ → List Decision → SearchOutcome → Type 0
  By = IsVisitBy First Choices model bound

  least_for : (decisions : List Decision) (state : State) → IsSettled model decisions → IsLeast model decisions state → IsLeastFor model decisions state
  least_for decisions state settled least = record { lawful = lawful; settled = settled; least = least }

  choices_settled : (Visit : ℕ → List Decision → SearchOutcome → Type 0) (decisions : List Decision) (state : State) (units : ℕ) (outcome : SearchOutcome) → IsSettled model decisions → IsLeast model decisions state
      → (reads : ReadsFlaw First Choices model bound Visit decisions state units outcome) → (choice : Decision) → Contains reads.choices choice → IsSettled model (decisions ++ choice ∷ [])
  choices_settled Visit decisions state units outcome settled least reads choice there =
      IsSettled-push model decisions choice settled (admits decisions state reads.flaw reads.choices choice (least_for decisions state settled least) reads.is_first reads.are there)

  -- ---- what is found

  pub found_by_rule : (depth units : ℕ) (decisions found : List Decision) (outcome : SearchOutcome) → IsSettled model decisions → By depth units decisions outcome
      → outcome.ending ≡ Finds found → IsFoundList model decisions found
  found_by_rule depth zero decisions found outcome settled visits ends =
      absurd (stops_not_finds found (sym (ap (λ (o : SearchOutcome). o.ending) visits) ∙ ends))
  found_by_rule zero (suc units) decisions found outcome settled visits ends = absurd visits
  found_by_rule (suc depth) (suc units) decisions found outcome settled (inl (collapsed, same)) ends =
      absurd (fails_not_finds found (sym (ap (λ (o : SearchOutcome). o.ending) same) ∙ ends))
  found_by_rule (suc depth) (suc units) decisions found outcome settled (inr reads) ends = by_reads (found_by_rule depth) reads.reads
    where
      by_reads : ((units : ℕ) (decisions found : List Decision) (outcome : SearchOutcome) → IsSettled model decisions → By depth units decisions outcome
          → outcome.ending ≡ Finds found → IsFoundList model decisions found)
          → (First model decisions reads.state None × (outcome ≡ record { ending = Finds decisions; left = units; left_out = false }))
          ⊎ ReadsFlaw First Choices model bound (By depth) decisions reads.state units outcome → IsFoundList model decisions found
      by_reads inner (inl (none, same)) =
          let is : decisions ≡ found = finds_same decisions found (sym (ap (λ (o : SearchOutcome). o.ending) same) ∙ ends) in
          record {
            more = [];
            longer = sym is ∙ sym (append-nil decisions);
            settled = subst (IsSettled model) is settled;
            state = reads.state;
            least = subst (λ (l : List Decision). IsLeast model l reads.state) is reads.least;
            flawless = subst (λ (l : List Decision). HasFlaw model l reads.state → ⊥) is (clears decisions reads.state (least_for decisions reads.state settled reads.least) none);
          }
      by_reads inner (inr at) =
          found_each model lawful bound few (By depth) inner decisions at.choices units at.out found outcome
          (choices_settled (By depth) decisions reads.state units outcome settled reads.least at) at.visits ends

  -- ---- what failing proves

  not_left_out : (decisions : List Decision) (flaw : Flaw) (out : Bool) → MatchBool out (LeavesOut model decisions bound flaw) (LeavesOut model decisions bound flaw → ⊥)
      → out ≡ false → LeavesOut model decisions bound flaw → ⊥
  not_left_out decisions flaw true tells same left = true_false same
    where
      true_false : true ≡ false → ⊥
      true_false same = cc
  not_left_out decisions flaw false tells same left = tells left

  pub none_by_rule : (depth units : ℕ) (decisions : List Decision) (outcome : SearchOutcome) (plan : Plan) → IsSettled model decisions → By depth units decisions outcome
      → outcome.ending ≡ Fails → IsPlanFor model decisions plan → (count_of_tokens plan ≤ bound) ⊎ (outcome.left_out ≡ false) → ⊥
  none_by_rule depth zero decisions outcome plan settled visits ends fits covered = stops_not_fails (sym (ap (λ (o : SearchOutcome). o.ending) visits) ∙ ends)
  none_by_rule zero (suc units) decisions outcome plan settled visits ends fits covered = visits
  none_by_rule (suc depth) (suc units) decisions outcome plan settled (inl (collapsed, same)) ends fits covered =
      let own = plan_state model plan lawful fits.is_plan fits.valid in
      collapsed own.0 (closed_state model decisions plan own.0 lawful fits.is_plan fits.valid fits.agrees own.1).0
  none_by_rule (suc depth) (suc units) decisions outcome plan settled (inr reads) ends fits covered = by_reads (none_by_rule depth) reads.reads
    where
      by_reads : ((units : ℕ) (decisions : List Decision) (outcome : SearchOutcome) (plan : Plan) → IsSettled model decisions → By depth units decisions outcome
          → outcome.ending ≡ Fails → IsPlanFor model decisions plan → (count_of_tokens plan ≤ bound) ⊎ (outcome.left_out ≡ false) → ⊥)
          → (First model decisions reads.state None × (outcome ≡ record { ending = Finds decisions; left = units; left_out = false }))
          ⊎ ReadsFlaw First Choices model bound (By depth) decisions reads.state units outcome → ⊥
      by_reads inner (inl (none, same)) = finds_not_fails decisions (sym (ap (λ (o : SearchOutcome). o.ending) same) ∙ ends)
      by_reads inner (inr at) =
          let some = covers decisions reads.state at.flaw at.choices plan (least_for decisions reads.state settled reads.least) at.is_first at.are fits
          (⊎_elim (λ less. inl less) (λ none. inr (not_left_out decisions at.flaw at.out at.tells
          (left_before model lawful bound few (By depth) decisions at.choices units at.out outcome at.visits none))) covered) in
          none_each model lawful bound few (By depth) inner decisions at.choices units at.out outcome
          (choices_settled (By depth) decisions reads.state units outcome settled reads.least at)
          at.visits ends some.choice some.chosen some.changed some.fits
          (⊎_elim (λ less. inl (subst (λ n. n ≤ bound) (sym some.count) less)) (λ none. inr none) covered)
