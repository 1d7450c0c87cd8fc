-- With which values the variables of tokens are declared.
use Rattle.std.proofs.Common.{◌≡◌, ℕ, ℤ, pos, ◌-ℤ◌, Bool, true, false, List, [], ◌∷◌, ◌++◌, refl, sym, ap, ◌∙◌, subst}
use Rattle.std.specs.Prelude.{IsTrue, MatchBool}
use Rattle.domain_core.specs.Domain.{Domain, Range, Has}
use Rattle.eu_name.specs.declared.name.Part.{Part}
use Rattle.eu_name.specs.declared.name.Part.TheVariants.{Start, End, Duration, Object, Param}
use Rattle.eu_name.specs.declared.name.Step.{Step}
use Rattle.eu_name.specs.declared.name.TokenName.{TokenName}
use Rattle.eu_name.specs.declared.name.VarName.TheVariants as variables
use Rattle.model_core.specs.declared.model.Model.{Model}
use Rattle.model_core.specs.declared.model.Root.{Root}
use Rattle.model_core.specs.declared.rule.Slot.{Slot}
use Rattle.model_core.specs.declared.variable.Base.{Base}
use Rattle.model_core.specs.declared.variable.Base.TheVariants.{Given, Void}
use Rattle.model_core.specs.Names.{token_at}
use Rattle.model_core.specs.Tokens.{HasToken, IsRoot, LeadsToSlot, Reaches, slot_of, HasPred}
use Rattle.model_core.specs.Variables.{HasParameter, HasPartBase}
use Rattle.model_core.proofs.Leading.{token_once}
use Rattle.plan_defs.specs.Refusals.{IsDeclared}
use Rattle.plan_values.proofs.Matching.{match_bool}
use Rattle.plan_values.specs.Bases.{BaseHas, MayBeObject, MayBeParameter}

-- ---- one more step

reaches_split : (model : Model) (slot : Slot) (steps : List Step) (last : Step) (reached : Slot) → Reaches model slot (steps ++ last ∷ []) reached
    → (middle : Slot) × Reaches model slot steps middle × LeadsToSlot model middle.pred last reached
reaches_split model slot [] last reached (next, leads, same) = (slot, refl, subst (LeadsToSlot model slot.pred last) (sym same) leads)
reaches_split model slot (step ∷ steps) last reached (next, leads, rest) =
    let more = reaches_split model next steps last reached rest in
    (more.0, (next, leads, more.1), more.2)

reaches_join : (model : Model) (slot : Slot) (steps : List Step) (last : Step) (middle reached : Slot) → Reaches model slot steps middle → LeadsToSlot model middle.pred last reached
    → Reaches model slot (steps ++ last ∷ []) reached
reaches_join model slot [] last middle reached same leads = (reached, subst (λ (s : Slot). LeadsToSlot model s.pred last reached) same leads, refl)
reaches_join model slot (step ∷ steps) last middle reached (next, first, rest) leads = (next, first, reaches_join model next steps last middle reached rest leads)

module _ (model : Model) (root : ℕ) (front : List Step) (last : Step) where
  pub slot_found : (pred : ℕ) (slot : Slot) → HasPred model (token_at root front) pred → LeadsToSlot model pred last slot → HasToken model (token_at root (front ++ last ∷ [])) slot
  slot_found pred slot (middle, has, same) leads = record {
    root = has.root;
    is_root = has.is_root;
    reached = reaches_join model (slot_of has.root) front last middle slot has.reached (subst (λ (n : ℕ). LeadsToSlot model n last slot) (sym same) leads);
  }

  pub slot_none : (pred : ℕ) → HasPred model (token_at root front) pred → ((slot : Slot) → LeadsToSlot model pred last slot → ⊥)
      → (slot : Slot) → HasToken model (token_at root (front ++ last ∷ [])) slot → ⊥
  slot_none pred (middle, has, same) none slot is =
      let split = reaches_split model (slot_of is.root) front last slot is.reached in
      let front_token : HasToken model (token_at root front) split.0 = record { root = is.root; is_root = is.is_root; reached = split.1 } in
      let preds : split.0.pred ≡ pred = ap (λ (s : Slot). s.pred) (token_once model (token_at root front) split.0 middle front_token has) ∙ same in
      none slot (subst (λ (n : ℕ). LeadsToSlot model n last slot) preds split.2)

  pub no_front : ((slot : Slot) → HasToken model (token_at root front) slot → ⊥) → (slot : Slot) → HasToken model (token_at root (front ++ last ∷ [])) slot → ⊥
  no_front none slot is =
      let split = reaches_split model (slot_of is.root) front last slot is.reached in
      none split.0 (record { root = is.root; is_root = is.is_root; reached = split.1 })

-- ---- objects

module _ (model : Model) (token : TokenName) (value value' : ℤ) (cast : value' ≡ value) where
  pub object_answer : (slot : Slot) (answer : Bool) → HasToken model token slot → MatchBool answer (BaseHas slot.object value') (BaseHas slot.object value' → ⊥)
      → MatchBool answer (MayBeObject model token value) (MayBeObject model token value → ⊥)
  object_answer slot answer has is = match_bool answer _ _ _ _
      (λ base. (slot, has, subst (BaseHas slot.object) cast base))
      (λ none may. none (subst (λ (s : Slot). BaseHas s.object value') (token_once model token may.0 slot may.1 has) (subst (BaseHas may.0.object) (sym cast) may.2))) is

pub root_slot : (model : Model) (number : ℕ) (root : Root) → IsRoot model number root → HasToken model (token_at number []) (slot_of root)
root_slot model number root is_root = record { root = root; is_root = is_root; reached = refl }

-- ---- parts

module _ (model : Model) (token : TokenName) (pred : ℕ) (of_pred : HasPred model token pred) (value value' : ℤ) (cast : value' ≡ value) where
  -- a part that is declared with this domain
  range_answer : (part : Part) (domain : Domain) (answer : Bool) → ((slot : Slot) → HasPartBase model slot part (Given domain))
      → ((slot : Slot) (other : Domain) → HasPartBase model slot part (Given other) → other ≡ domain) → MatchBool answer (Has domain value') (Has domain value' → ⊥)
      → MatchBool answer (IsDeclared model (variables.Token token part) value) (IsDeclared model (variables.Token token part) value → ⊥)
  range_answer part domain answer is_base only is = match_bool answer _ _ _ _
      (λ has. (domain, (of_pred.0, of_pred.1, is_base of_pred.0), subst (Has domain) cast has))
      (λ none declared. none (subst (Has domain) (sym cast) (subst (λ (d : Domain). Has d value) (only declared.1.0 declared.0 declared.1.2) declared.2))) is

  pub start_answer : (answer : Bool) → MatchBool answer (Has (Range model.problem.start model.problem.end) value') (Has (Range model.problem.start model.problem.end) value' → ⊥)
      → MatchBool answer (IsDeclared model (variables.Token token Start) value) (IsDeclared model (variables.Token token Start) value → ⊥)
  start_answer answer is = range_answer Start (Range model.problem.start model.problem.end) answer (λ slot. refl) (λ slot other same. cc) is

  pub end_answer : (answer : Bool) → MatchBool answer (Has (Range model.problem.start model.problem.end) value') (Has (Range model.problem.start model.problem.end) value' → ⊥)
      → MatchBool answer (IsDeclared model (variables.Token token End) value) (IsDeclared model (variables.Token token End) value → ⊥)
  end_answer answer is = range_answer End (Range model.problem.start model.problem.end) answer (λ slot. refl) (λ slot other same. cc) is

  pub duration_answer : (answer : Bool) → MatchBool answer (Has (Range (pos 1) (model.problem.end -ℤ model.problem.start)) value') (Has (Range (pos 1) (model.problem.end -ℤ model.problem.start)) value' → ⊥)
      → MatchBool answer (IsDeclared model (variables.Token token Duration) value) (IsDeclared model (variables.Token token Duration) value → ⊥)
  duration_answer answer is = range_answer Duration (Range (pos 1) (model.problem.end -ℤ model.problem.start)) answer (λ slot. refl) (λ slot other same. cc) is

  given_base : (base : Base) → BaseHas base value → (domain : Domain) × (Given domain ≡ base) × Has domain value
  given_base (Given domain) has = (domain, refl, has)
  given_base Void has = absurd has

  base_given : (base : Base) (domain : Domain) → Given domain ≡ base → Has domain value → BaseHas base value
  base_given base domain same has = subst (λ (b : Base). BaseHas b value) same has

  pub part_object_answer : (answer : Bool) → MatchBool answer (MayBeObject model token value') (MayBeObject model token value' → ⊥)
      → MatchBool answer (IsDeclared model (variables.Token token Object) value) (IsDeclared model (variables.Token token Object) value → ⊥)
  part_object_answer answer is = match_bool answer _ _ _ _
      (λ may.
      let given = given_base may.0.object (subst (BaseHas may.0.object) cast may.2) in
      (given.0, (may.0, may.1, given.1), given.2))
      (λ none declared. none (
      let base = base_given declared.1.0.object declared.0 declared.1.2 declared.2 in
      (declared.1.0, declared.1.1, subst (BaseHas declared.1.0.object) (sym cast) base))) is

  pub param_answer : (number : ℕ) (answer : Bool) → MatchBool answer (MayBeParameter model pred number value') (MayBeParameter model pred number value' → ⊥)
      → MatchBool answer (IsDeclared model (variables.Token token (Param number)) value) (IsDeclared model (variables.Token token (Param number)) value → ⊥)
  param_answer number answer is = match_bool answer _ _ _ _
      (λ may.
      let given = given_base may.0.base (subst (BaseHas may.0.base) cast may.2) in
      (given.0, (of_pred.0, of_pred.1, (may.0, subst (λ (n : ℕ). HasParameter model n number may.0) (sym of_pred.2) may.1, given.1)), given.2))
      (λ none declared. none (
      let slot = declared.1.0 in
      let param = declared.1.2 in
      let preds : slot.pred ≡ pred = ap (λ (s : Slot). s.pred) (token_once model token slot of_pred.0 declared.1.1 of_pred.1) ∙ of_pred.2 in
      (param.0, subst (λ (n : ℕ). HasParameter model n number param.0) preds param.1, subst (BaseHas param.0.base) (sym cast) (base_given param.0.base declared.0 param.2 declared.2)))) is

-- a test that says exactly whether it is so
pub tested : (answer : Bool) (P : Type 0) → (IsTrue answer → P) × (P → IsTrue answer) → MatchBool answer P (P → ⊥)
tested true P is = is.0 refl
tested false P is = λ p. (let e = is.1 p in absurd (cc))
