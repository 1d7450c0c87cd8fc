-- What a lawful model says of the sizes of a rule.
use Rattle.std.proofs.Common.{◌≡◌, ℕ, zero, suc, ◌<◌, ◌≤◌, List, [], ◌∷◌, length, Some, subst, arith}
use Rattle.std.specs.Prelude.{slice_get, sum_by}
use Rattle.std.specs.List.{AllZip}
use Rattle.std.proofs.lemmas.List.Sums.{get_or-le-sum_by}
use Rattle.model_core.specs.declared.model.Model.{Model}
use Rattle.model_core.specs.declared.rule.Rule.{Rule}
use Rattle.model_core.specs.Lawful.{IsLawful, IsLawfulRule, item_count}
use Rattle.model_core.specs.Tokens.{HasRule}
use Rattle.model_core.proofs.Items.{item_within, item_is, item_all}

-- the rule at this place of a predicate's list
rule_listed : (model : Model) (places : List ℕ) (rules : List Rule) (number place : ℕ) (rule : Rule) → AllZip (λ p r. slice_get model.rules p ≡ Some r) places rules
    → slice_get places number ≡ Some place → slice_get model.rules place ≡ Some rule → slice_get rules number ≡ Some rule
rule_listed model [] rules number place rule are listed is_rule = cc
rule_listed model (first ∷ places) [] number place rule are listed is_rule = absurd are
rule_listed model (first ∷ places) (found ∷ rules) zero place rule (here, later) listed is_rule =
    let same : first ≡ place = cc in
    cc
rule_listed model (first ∷ places) (found ∷ rules) (suc number) place rule (here, later) listed is_rule = rule_listed model places rules number place rule later listed is_rule

in_sum : (f : Rule → ℕ) (rules : List Rule) (number : ℕ) (rule : Rule) → slice_get rules number ≡ Some rule → f rule ≤ sum_by f rules
in_sum f rules number rule listed =
    subst (λ (found : Rule). f found ≤ sum_by f rules) (item_is rules number rule rule listed) (get_or-le-sum_by f rules number rule (item_within rules number rule listed))

-- a lawful rule that has few slots, locals and items, and a small number
pub record IsFew (model : Model) (pred number : ℕ) (rule : Rule) : Type 0 where
  pub lawful : IsLawfulRule model pred rule
  pub number_below : number < 1024
  pub slots : length rule.slots ≤ 128
  pub locals : length rule.locals ≤ 128
  pub items : item_count rule.top ≤ 1024

pub few_rule : (model : Model) (pred number : ℕ) (rule : Rule) → IsLawful model → HasRule model pred number rule → IsFew model pred number rule
few_rule model pred number rule lawful has =
    let pred_lawful = lawful.preds pred has.predicate has.is_predicate in
    let listed = rule_listed model has.predicate.rules pred_lawful.rules number has.place rule pred_lawful.are_rules has.listed has.is_rule in
    record {
      lawful = item_all (IsLawfulRule model pred) pred_lawful.rules number rule pred_lawful.lawful listed;
      number_below = omega (arith, item_within pred_lawful.rules number rule listed, pred_lawful.few.rules);
      slots = omega (arith, in_sum (λ (r : Rule). length r.slots) pred_lawful.rules number rule listed, pred_lawful.few.slots);
      locals = omega (arith, in_sum (λ (r : Rule). length r.locals) pred_lawful.rules number rule listed, pred_lawful.few.locals);
      items = omega (arith, in_sum (λ (r : Rule). item_count r.top) pred_lawful.rules number rule listed, pred_lawful.few.items);
    }
