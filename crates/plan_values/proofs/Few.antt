-- What a lawful model says of the sizes of a token's rule.
use Rattle.std.specs.Prelude.{ℕ}
use Rattle.eu_name.specs.declared.name.TokenName.{TokenName}
use Rattle.model_core.specs.declared.model.Model.{Model}
use Rattle.model_core.specs.declared.rule.Rule.{Rule}
use Rattle.model_core.specs.Lawful.{IsLawful}
use Rattle.model_core.proofs.Few.{IsFew, few_rule}
use Rattle.plan_values.specs.Walks.{HasRuleOf}

pub few_of : (model : Model) (token : TokenName) (number : ℕ) (rule : Rule) → IsLawful model → (is : HasRuleOf model token number rule) → IsFew model is.slot.pred number rule
few_of model token number rule lawful is = few_rule model is.slot.pred number rule lawful is.has_rule
