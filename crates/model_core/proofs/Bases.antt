-- A variable has one base.
use Rattle.std.proofs.Common.{◌≡◌, ℕ, Some, sym, ap, ◌∙◌, subst}
use Rattle.std.specs.Prelude.{slice_get}
use Rattle.eu_name.specs.declared.name.Part.{Part}
use Rattle.eu_name.specs.declared.name.Part.TheVariants.{Start, End, Duration, Object, Param}
use Rattle.eu_name.specs.declared.name.VarName.{VarName}
use Rattle.eu_name.specs.declared.name.VarName.TheVariants as variables
use Rattle.model_core.specs.declared.class.Pred.{Pred}
use Rattle.model_core.specs.declared.model.Model.{Model}
use Rattle.model_core.specs.declared.rule.Rule.{Rule}
use Rattle.model_core.specs.declared.rule.Slot as slots
use Rattle.model_core.specs.declared.variable.Base.{Base}
use Rattle.model_core.specs.declared.variable.VarDecl.{VarDecl}
use Rattle.model_core.specs.Variables.{HasBase, HasPartBase, HasParameter, HasLocal}
use Rattle.model_core.proofs.Leading.{token_once}
use Rattle.model_core.proofs.Rules.{has_rule_once}
use Rattle.eu_name.proofs.Members.{get_same}

abbrev base_of : VarDecl → Base
base_of variable = variable.base

parameter_same : (model : Model) (pred number : ℕ) (one other : VarDecl) → HasParameter model pred number one → HasParameter model pred number other → one ≡ other
parameter_same model pred number one other p q =
    let preds = get_same model.preds pred p.predicate q.predicate p.is_predicate q.is_predicate in
    get_same p.predicate.params number one other p.declared
    (subst (λ (pred' : Pred). slice_get pred'.params number ≡ Some other) (sym preds) q.declared)

part_base_once : (model : Model) (slot : slots.Slot) (part : Part) (one other : Base) → HasPartBase model slot part one → HasPartBase model slot part other → one ≡ other
part_base_once model slot Start one other p q = p ∙ sym q
part_base_once model slot End one other p q = p ∙ sym q
part_base_once model slot Duration one other p q = p ∙ sym q
part_base_once model slot Object one other p q = p ∙ sym q
part_base_once model slot (Param number) one other p q =
    p.2 ∙ ap base_of (parameter_same model slot.pred number p.0 q.0 p.1 q.1) ∙ sym q.2

local_same : (model : Model) (slot : slots.Slot) (rule number : ℕ) (one other : VarDecl) → HasLocal model slot rule number one → HasLocal model slot rule number other → one ≡ other
local_same model slot rule number one other p q =
    let rules = has_rule_once model slot.pred rule p.found q.found p.has_rule q.has_rule in
    get_same p.found.locals number one other p.declared
    (subst (λ (r : Rule). slice_get r.locals number ≡ Some other) (sym rules) q.declared)

-- a variable is declared with one base
pub base_once : (model : Model) (name : VarName) (one other : Base) → HasBase model name one → HasBase model name other → one ≡ other
base_once model (variables.Global number) one other p q =
    p.2 ∙ ap base_of (get_same model.problem.globals number p.0 q.0 p.1 q.1) ∙ sym q.2
base_once model (variables.Token token part) one other p q =
    let same = token_once model token p.0 q.0 p.1 q.1 in
    part_base_once model p.0 part one other p.2 (subst (λ (s : slots.Slot). HasPartBase model s part other) (sym same) q.2)
base_once model (variables.Local token rule number) one other p q =
    let same = token_once model token p.slot q.slot p.has_token q.has_token in
    p.is_base ∙ ap base_of (local_same model p.slot rule number p.variable q.variable p.has_local
    (subst (λ (s : slots.Slot). HasLocal model s rule number q.variable) (sym same) q.has_local)) ∙ sym q.is_base
