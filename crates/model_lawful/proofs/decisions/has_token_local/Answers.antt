use Rattle.model_typing.proofs.Telling.{told_as, told_not}
use Rattle.eu_name.specs.declared.name.VarName.TheVariants.{Local}
use Rattle.std.proofs.Common.{refl}
use Rattle.model_lawful.specs.Parts.{HasRuleLocal, HasVariable}
use Rattle.model_lawful.proofs.Tokening.{local_there, there_local}
use Rattle.model_lawful.proofs.decisions.has_token_local.Goals as goal

pub returns-in-Some : goal.returns-in-Some
returns-in-Some c =
    told_as c.has_rule_local.result (HasRuleLocal c.args.model.now c.in-Some.pred c.args.rule c.args.number) (HasVariable c.args.model.now (Local c.args.token.now c.args.rule c.args.number))
    (local_there c.args.model.now c.args.token.now c.in-Some.pred c.in-Some.ensures c.args.rule c.args.number)
    (there_local c.args.model.now c.args.token.now c.in-Some.pred c.in-Some.ensures c.args.rule c.args.number) c.has_rule_local.ensures

pub returns-in-None : goal.returns-in-None
returns-in-None c = told_not _ (λ has. c.in-None.ensures has.1.slot.pred (has.1.slot, has.1.has_token, refl))
