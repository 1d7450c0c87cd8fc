-- What a lawful model says of its rules and of the bases of its variables.
use Rattle.std.proofs.Common.{◌≡◌, ℕ, List, [], ◌∷◌, ◌++◌, Some, pos, ◌-ℤ◌, refl, sym, subst, arith}
use Rattle.std.specs.Prelude.{slice_get}
use Rattle.std.proofs.lemmas.Int.{ints}
use Rattle.domain_core.specs.Domain.{Domain, Range, IsDomain}
use Rattle.eu_name.specs.declared.name.Part.{Part}
use Rattle.eu_name.specs.declared.name.Part.TheVariants.{Start, End, Duration, Object, Param}
use Rattle.eu_name.specs.declared.name.Step.{Step}
use Rattle.eu_name.specs.declared.name.TokenName.{TokenName}
use Rattle.eu_name.specs.declared.name.VarName.{VarName}
use Rattle.eu_name.specs.declared.name.VarName.TheVariants as variables
use Rattle.model_core.specs.declared.model.Model.{Model}
use Rattle.model_core.specs.declared.rule.Rule.{Rule}
use Rattle.model_core.specs.declared.rule.Slot.{Slot}
use Rattle.model_core.specs.declared.variable.Base.{Base}
use Rattle.model_core.specs.declared.variable.Base.TheVariants.{Given}
use Rattle.model_core.specs.Lawful.{IsLawful, IsLawfulRule, IsLawfulSlot, IsLawfulVariable, IsLawfulRoot, IsLawfulBase}
use Rattle.model_core.specs.Tokens.{HasToken, HasRule, LeadsToSlot, Reaches, slot_of, slot_token}
use Rattle.model_core.specs.Variables.{HasBase, HasPartBase}
use Rattle.eu_name.proofs.Members.{get_all, get_same}
use Rattle.eu_name.proofs.Places.{zip_at, zip_within}

module _ (model : Model) (lawful : IsLawful model) where
  pub rule_lawful : (pred number : ℕ) (rule : Rule) → HasRule model pred number rule → IsLawfulRule model pred rule
  rule_lawful pred number rule has =
      let of_pred = lawful.preds pred has.predicate has.is_predicate in
      let found = zip_within (λ place listed. slice_get model.rules place ≡ Some listed) has.predicate.rules of_pred.rules number has.place of_pred.are_rules has.listed in
      let is_found = zip_at (λ place listed. slice_get model.rules place ≡ Some listed) has.predicate.rules of_pred.rules number has.place found.0 of_pred.are_rules has.listed found.1 in
      subst (IsLawfulRule model pred) (get_same model.rules has.place found.0 rule is_found has.is_rule)
      (get_all (IsLawfulRule model pred) of_pred.rules number found.0 of_pred.lawful found.1)

  -- ---- on which objects a token may be

  step_lawful : (pred : ℕ) (step : Step) (slot : Slot) → LeadsToSlot model pred step slot → IsLawfulBase slot.object
  step_lawful pred step slot leads =
      let rule = rule_lawful pred step.rule leads.rule leads.has_rule in
      (get_all (IsLawfulSlot model) leads.rule.slots step.slot slot rule.slots leads.is_slot).base

  reached_lawful : (slot reached : Slot) (steps : List Step) → IsLawfulBase slot.object → Reaches model slot steps reached → IsLawfulBase reached.object
  reached_lawful slot reached [] is reaches = subst (λ (s : Slot). IsLawfulBase s.object) (sym reaches) is
  reached_lawful slot reached (step ∷ steps) is (next, leads, reaches) = reached_lawful next reached steps (step_lawful slot.pred step next leads) reaches

  token_lawful : (token : TokenName) (slot : Slot) → HasToken model token slot → IsLawfulBase slot.object
  token_lawful token slot has =
      let root = get_all (IsLawfulRoot model) model.problem.roots token.root has.root lawful.roots has.is_root in
      reached_lawful (slot_of has.root) slot token.steps root.object has.reached

  -- ---- what a variable is declared with

  given_lawful : (domain : Domain) (base : Base) → Given domain ≡ base → IsLawfulBase base → IsDomain domain
  given_lawful domain base is lawful_base = subst IsLawfulBase (sym is) lawful_base

  given_range : (domain range : Domain) → Given domain ≡ Given range → IsDomain range → IsDomain domain
  given_range domain range is is_range = let same : range ≡ domain = cc in subst IsDomain same is_range

  horizon_domain : IsDomain (Range model.problem.start model.problem.end)
  horizon_domain =
      let from = lawful.horizon.start in
      let order = lawful.horizon.order in
      let to = lawful.horizon.end.1 in
      ((omega (arith, ints, from), omega (arith, ints, from, order, to)), lawful.horizon.end, omega (arith, ints, order))

  duration_domain : IsDomain (Range (pos 1) (model.problem.end -ℤ model.problem.start))
  duration_domain =
      let from = lawful.horizon.start in
      let order = lawful.horizon.order in
      let to = lawful.horizon.end.1 in
      ((omega (arith, ints), omega (arith, ints)), (omega (arith, ints, from, order, to), omega (arith, ints, from, order, to)), omega (arith, ints, order))

  part_lawful : (token : TokenName) (slot : Slot) (part : Part) (domain : Domain) → HasToken model token slot → HasPartBase model slot part (Given domain) → IsDomain domain
  part_lawful token slot Start domain has is = given_range domain (Range model.problem.start model.problem.end) is horizon_domain
  part_lawful token slot End domain has is = given_range domain (Range model.problem.start model.problem.end) is horizon_domain
  part_lawful token slot Duration domain has is = given_range domain (Range (pos 1) (model.problem.end -ℤ model.problem.start)) is duration_domain
  part_lawful token slot Object domain has is = given_lawful domain slot.object is (token_lawful token slot has)
  part_lawful token slot (Param number) domain has (variable, is_parameter, is) =
      let of_pred = lawful.preds slot.pred is_parameter.predicate is_parameter.is_predicate in
      let declared = get_all (IsLawfulVariable model) is_parameter.predicate.params number variable of_pred.params is_parameter.declared in
      given_lawful domain variable.base is declared.base

  pub base_lawful : (name : VarName) (domain : Domain) → HasBase model name (Given domain) → IsDomain domain
  base_lawful (variables.Global number) domain (variable, is_global, is) =
      given_lawful domain variable.base is (get_all (IsLawfulVariable model) model.problem.globals number variable lawful.globals is_global).base
  base_lawful (variables.Token token part) domain (slot, has, is) = part_lawful token slot part domain has is
  base_lawful (variables.Local token rule number) domain has =
      let of_rule = rule_lawful has.slot.pred rule has.has_local.found has.has_local.has_rule in
      given_lawful domain has.variable.base has.is_base
      (get_all (IsLawfulVariable model) has.has_local.found.locals number has.variable of_rule.locals has.has_local.declared).base

-- ---- the token that a slot asks for

reaches_push : (model : Model) (slot reached next : Slot) (steps : List Step) (step : Step) → Reaches model slot steps reached → LeadsToSlot model reached.pred step next
    → Reaches model slot (steps ++ step ∷ []) next
reaches_push model slot reached next [] step reaches leads = (next, subst (λ (s : Slot). LeadsToSlot model s.pred step next) reaches leads, refl)
reaches_push model slot reached next (first ∷ steps) step (inner, leads_first, reaches) leads =
    (inner, leads_first, reaches_push model inner reached next steps step reaches leads)

pub has_slot_token : (model : Model) (token : TokenName) (slot next : Slot) (rule : ℕ) (found : Rule) (number : ℕ) → HasToken model token slot → HasRule model slot.pred rule found
    → slice_get found.slots number ≡ Some next → HasToken model (slot_token token rule number) next
has_slot_token model token slot next rule found number has has_rule at = record {
  root = has.root;
  is_root = has.is_root;
  reached = reaches_push model (slot_of has.root) slot next token.steps (record { rule = rule; slot = number }) has.reached
      (record { rule = found; has_rule = has_rule; is_slot = at });
}
