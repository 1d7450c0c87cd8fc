-- What the search finds, and what its failure proves.
use Rattle.std.proofs.Common.{◌≡◌, ℕ, zero, suc, ◌≤◌, ◌⊎◌, inl, inr, ⊎_elim, Bool, true, false, ◌||◌, List, [], ◌∷◌, ◌++◌, refl, sym, ap, ◌∙◌, subst, append_assoc}
use Rattle.std.specs.Prelude.{Contains}
use Rattle.std.proofs.lemmas.List.{append-nil}
use Rattle.model_core.specs.declared.decision.Decision.{Decision}
use Rattle.model_core.specs.declared.model.Model.{Model}
use Rattle.model_core.specs.Lawful.{IsLawful}
use Rattle.model_core.specs.State.{State}
use Rattle.plan_defs.specs.declared.plan.Plan.{Plan}
use Rattle.plan_defs.specs.Closure.{IsLeast}
use Rattle.plan_defs.specs.Settling.{IsSettled}
use Rattle.plan_defs.proofs.Completing.{closed_state}
use Rattle.eu_name.proofs.Ordered.{contains_head, contains_later, contains_cases, contains_none}
use Rattle.plan_defs.proofs.Settling.{IsSettled-push}
use Rattle.plan_defs.specs.Flaws.{Flaw, HasFlaw}
use Rattle.law_search.specs.SwapLaws.{count_of_tokens}
use Rattle.law_states.proofs.Owning.{plan_state}
use Rattle.law_search.specs.Choices.{IsFirstFlaw, AreChoices, IsLeftOut}
use Rattle.law_search.specs.Search.{Finds, Fails, Stops, SearchOutcome, VisitsEach, TellsLeftOut, LooksAtFlaw, IsVisitOf}
use Rattle.law_search.specs.SearchLaws.{IsChoiceOf, IsPlanFor, IsFoundList}
use Rattle.law_search.proofs.Picking.{choice_admissible}
use Rattle.law_search.proofs.Covering.{choices_cover}

pub fails_not_finds : (found : List Decision) → Fails ≡ Finds found → ⊥
fails_not_finds found same = cc

pub stops_not_finds : (found : List Decision) → Stops ≡ Finds found → ⊥
stops_not_finds found same = cc

pub stops_not_fails : Stops ≡ Fails → ⊥
stops_not_fails same = cc

pub finds_not_fails : (found : List Decision) → Finds found ≡ Fails → ⊥
finds_not_fails found same = cc

pub finds_same : (one other : List Decision) → Finds one ≡ Finds other → one ≡ other
finds_same one other same = cc

-- ---- what is found

module _ (model : Model) (lawful : IsLawful model) (bound : ℕ) (few : bound ≤ 512) where
  -- each list that a visit finds is one that begins so
  abbrev FindsOnly : (ℕ → List Decision → SearchOutcome → Type 0) → Type 0
  FindsOnly Visit = (units : ℕ) (decisions found : List Decision) (outcome : SearchOutcome) → IsSettled model decisions → Visit units decisions outcome
      → outcome.ending ≡ Finds found → IsFoundList model decisions found

  found_later : (decisions : List Decision) (choice : Decision) (found : List Decision) → IsFoundList model (decisions ++ choice ∷ []) found → IsFoundList model decisions found
  found_later decisions choice found is = record {
    more = choice ∷ is.more;
    longer = is.longer ∙ append_assoc decisions (choice ∷ []) is.more;
    settled = is.settled;
    state = is.state;
    least = is.least;
    flawless = is.flawless;
  }

  pub found_each : (Visit : ℕ → List Decision → SearchOutcome → Type 0) → FindsOnly Visit → (decisions : List Decision) (choices : List Decision) (units : ℕ) (out : Bool) (found : List Decision) (outcome : SearchOutcome)
      → ((choice : Decision) → Contains choices choice → IsSettled model (decisions ++ choice ∷ [])) → VisitsEach Visit decisions choices units out outcome → outcome.ending ≡ Finds found
      → IsFoundList model decisions found
  found_each Visit only decisions [] units out found outcome settled visits ends =
      absurd (fails_not_finds found (sym (ap (λ (o : SearchOutcome). o.ending) visits) ∙ ends))
  found_each Visit only decisions (choice ∷ choices) units out found outcome settled (first, visit, inl (failed, rest)) ends =
      found_each Visit only decisions choices first.left (out || first.left_out) found outcome
      (λ other there. settled other (contains_later choice other choices there)) rest ends
  found_each Visit only decisions (choice ∷ choices) units out found outcome settled (first, visit, inr (ended, same)) ends =
      found_later decisions choice found (only units (decisions ++ choice ∷ []) found first (settled choice (contains_head choice choices)) visit
      (sym (ap (λ (o : SearchOutcome). o.ending) same) ∙ ends))

  pub choices_settled : (decisions : List Decision) (state : State) (flaw : Flaw) (choices : List Decision) → IsSettled model decisions → IsLeast model decisions state
      → IsFirstFlaw model decisions state flaw → AreChoices model decisions state bound flaw choices
      → (choice : Decision) → Contains choices choice → IsSettled model (decisions ++ choice ∷ [])
  choices_settled decisions state flaw choices settled least first are choice there =
      IsSettled-push model decisions choice settled (choice_admissible model decisions state bound flaw choices choice few
      (record { lawful = lawful; settled = settled; least = least; first = first; are = are }) there)

  pub found_by : (depth : ℕ) → FindsOnly (IsVisitOf model bound depth)
  found_by depth zero decisions found outcome settled visits ends =
      absurd (stops_not_finds found (sym (ap (λ (o : SearchOutcome). o.ending) visits) ∙ ends))
  found_by zero (suc units) decisions found outcome settled visits ends = absurd visits
  found_by (suc depth) (suc units) decisions found outcome settled (inl (collapsed, same)) ends =
      absurd (fails_not_finds found (sym (ap (λ (o : SearchOutcome). o.ending) same) ∙ ends))
  found_by (suc depth) (suc units) decisions found outcome settled (inr looks) ends = by_looks (found_by depth) looks.looks
    where
      by_looks : FindsOnly (IsVisitOf model bound depth) → ((HasFlaw model decisions looks.state → ⊥) × (outcome ≡ record { ending = Finds decisions; left = units; left_out = false }))
          ⊎ LooksAtFlaw model bound (IsVisitOf model bound depth) decisions looks.state units outcome → IsFoundList model decisions found
      by_looks inner (inl (flawless, same)) =
          let is : decisions ≡ found = finds_same decisions found (sym (ap (λ (o : SearchOutcome). o.ending) same) ∙ ends) in
          record {
            more = [];
            longer = sym is ∙ sym (append-nil decisions);
            settled = subst (IsSettled model) is settled;
            state = looks.state;
            least = subst (λ (l : List Decision). IsLeast model l looks.state) is looks.least;
            flawless = subst (λ (l : List Decision). HasFlaw model l looks.state → ⊥) is flawless;
          }
      by_looks inner (inr at) =
          found_each (IsVisitOf model bound depth) inner decisions at.choices units at.out found outcome
          (choices_settled decisions looks.state at.flaw at.choices settled looks.least at.is_first at.are) at.visits ends

-- ---- what failing proves

or_left : (a b : Bool) → (a || b) ≡ false → a ≡ false
or_left true b e = e
or_left false b e = refl

or_right : (a b : Bool) → (a || b) ≡ false → b ≡ false
or_right true b e = absurd (true_false e)
  where
    true_false : true ≡ false → ⊥
    true_false same = cc
or_right false b e = e

module _ (model : Model) (lawful : IsLawful model) (bound : ℕ) (few : bound ≤ 512) where
  -- the plan is within the bound, or no activation was left out
  abbrev IsCovered : Plan → SearchOutcome → Type 0
  IsCovered plan outcome = (count_of_tokens plan ≤ bound) ⊎ (outcome.left_out ≡ false)

  -- no plan that agrees with a list is left where a visit of it fails
  abbrev ProvesNone : (ℕ → List Decision → SearchOutcome → Type 0) → Type 0
  ProvesNone Visit = (units : ℕ) (decisions : List Decision) (outcome : SearchOutcome) (plan : Plan) → IsSettled model decisions → Visit units decisions outcome
      → outcome.ending ≡ Fails → IsPlanFor model decisions plan → IsCovered plan outcome → ⊥

  -- what is left out for none of the choices is left out for none before
  pub left_before : (Visit : ℕ → List Decision → SearchOutcome → Type 0) (decisions choices : List Decision) (units : ℕ) (out : Bool) (outcome : SearchOutcome)
      → VisitsEach Visit decisions choices units out outcome → outcome.left_out ≡ false → out ≡ false
  left_before Visit decisions [] units out outcome visits none = sym (ap (λ (o : SearchOutcome). o.left_out) visits) ∙ none
  left_before Visit decisions (choice ∷ choices) units out outcome (first, visit, inl (failed, rest)) none =
      or_left out first.left_out (left_before Visit decisions choices first.left (out || first.left_out) outcome rest none)
  left_before Visit decisions (choice ∷ choices) units out outcome (first, visit, inr (ended, same)) none =
      or_left out first.left_out (sym (ap (λ (o : SearchOutcome). o.left_out) same) ∙ none)

  pub none_each : (Visit : ℕ → List Decision → SearchOutcome → Type 0) → ProvesNone Visit → (decisions choices : List Decision) (units : ℕ) (out : Bool) (outcome : SearchOutcome)
      → ((choice : Decision) → Contains choices choice → IsSettled model (decisions ++ choice ∷ [])) → VisitsEach Visit decisions choices units out outcome → outcome.ending ≡ Fails
      → (choice : Decision) → Contains choices choice → (plan : Plan) → IsPlanFor model (decisions ++ choice ∷ []) plan → IsCovered plan outcome → ⊥
  none_each Visit proves decisions [] units out outcome settled visits ends choice there plan fits covered = contains_none choice there
  none_each Visit proves decisions (next ∷ choices) units out outcome settled (first, visit, inr (ended, same)) ends choice there plan fits covered =
      ended (sym (ap (λ (o : SearchOutcome). o.ending) same) ∙ ends)
  none_each Visit proves decisions (next ∷ choices) units out outcome settled (first, visit, inl (failed, rest)) ends choice there plan fits covered =
      ⊎_elim
      (λ same. proves units (decisions ++ next ∷ []) first plan (settled next (contains_head next choices)) visit failed
      (subst (λ (c : Decision). IsPlanFor model (decisions ++ c ∷ []) plan) (sym same) fits)
      (⊎_elim (λ less. inl less) (λ none. inr (or_right out first.left_out (left_before Visit decisions choices first.left (out || first.left_out) outcome rest none))) covered))
      (λ later. none_each Visit proves decisions choices first.left (out || first.left_out) outcome
      (λ other at. settled other (contains_later next other choices at)) rest ends choice later plan fits covered)
      (contains_cases next choice choices there)

  pub none_by : (depth : ℕ) → ProvesNone (IsVisitOf model bound depth)
  none_by depth zero decisions outcome plan settled visits ends fits covered = stops_not_fails (sym (ap (λ (o : SearchOutcome). o.ending) visits) ∙ ends)
  none_by zero (suc units) decisions outcome plan settled visits ends fits covered = visits
  none_by (suc depth) (suc units) decisions outcome plan settled (inl (collapsed, same)) ends fits covered =
      let own = plan_state model plan lawful fits.is_plan fits.valid in
      collapsed own.0 (closed_state model decisions plan own.0 lawful fits.is_plan fits.valid fits.agrees own.1).0
  none_by (suc depth) (suc units) decisions outcome plan settled (inr looks) ends fits covered = by_looks (none_by depth) looks.looks
    where
      by_looks : ProvesNone (IsVisitOf model bound depth) → ((HasFlaw model decisions looks.state → ⊥) × (outcome ≡ record { ending = Finds decisions; left = units; left_out = false }))
          ⊎ LooksAtFlaw model bound (IsVisitOf model bound depth) decisions looks.state units outcome → ⊥
      by_looks inner (inl (flawless, same)) = finds_not_fails decisions (sym (ap (λ (o : SearchOutcome). o.ending) same) ∙ ends)
      by_looks inner (inr at) =
          let is : IsChoiceOf model decisions looks.state bound at.flaw at.choices =
          record { lawful = lawful; settled = settled; least = looks.least; first = at.is_first; are = at.are } in
          let some = choices_cover model decisions looks.state bound at.flaw at.choices plan is fits
          (⊎_elim (λ less. inl less) (λ none. inr (not_left_out at.out at.tells
          (left_before (IsVisitOf model bound depth) decisions at.choices units at.out outcome at.visits none))) covered) in
          none_each (IsVisitOf model bound depth) inner decisions at.choices units at.out outcome
          (λ choice there. IsSettled-push model decisions choice settled (choice_admissible model decisions looks.state bound at.flaw at.choices choice few is there))
          at.visits ends some.choice some.chosen some.changed some.fits
          (⊎_elim (λ less. inl (subst (λ n. n ≤ bound) (sym some.count) less)) (λ none. inr none) covered)
        where
          not_left_out : (out : Bool) → TellsLeftOut model decisions bound at.flaw out → out ≡ false → IsLeftOut model decisions looks.state bound at.flaw → ⊥
          not_left_out true tells same left = true_false same
            where
              true_false : true ≡ false → ⊥
              true_false same = cc
          not_left_out false tells same left = tells looks.state left
