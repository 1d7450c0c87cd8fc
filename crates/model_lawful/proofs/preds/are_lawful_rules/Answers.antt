use Rattle.std.proofs.Common.{All, Bor, map, refl}
use Rattle.model_core.specs.declared.rule.Rule.{Rule}
use Rattle.model_core.specs.Lawful.{IsLawfulRule}
use Rattle.model_typing.proofs.Telling.{ok_as}
use Rattle.model_lawful.specs.Preds.{AreLawfulRules}
use Rattle.model_lawful.proofs.preds.are_lawful_rules.Goals as goal

pub returns : goal.returns
returns c =
    let rules = map (λ (rule : Bor Rule). rule.now) c.args.rules.now in
    ok_as c.are_lawful_each.result (All (IsLawfulRule c.args.model.now c.args.number) rules) (AreLawfulRules c.args.model.now c.args.number rules)
    (λ lawful. record { few = c.if-not-are_few.ensures.0 refl; lawful = lawful }) (λ are. are.lawful) c.are_lawful_each.ensures
