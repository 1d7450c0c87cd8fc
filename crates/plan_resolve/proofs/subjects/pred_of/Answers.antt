use Rattle.std.proofs.Common.{◌≡◌, subst}
use Rattle.model_core.specs.declared.model.Model.{Model}
use Rattle.model_core.specs.declared.rule.Slot.{Slot}
use Rattle.model_core.specs.Tokens.{HasToken}
use Rattle.plan_resolve.proofs.subjects.pred_of.Goals as goal

pub returns : goal.returns
returns c =
    subst (λ (model : Model). (slot : Slot) → HasToken model c.args.token.now slot → slot.pred ≡ c.pred_of.result) c.model.ensures c.pred_of.ensures
