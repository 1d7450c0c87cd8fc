use Rattle.model_typing.proofs.Telling.{told_as, told_not}
use Rattle.eu_name.specs.declared.name.VarName.TheVariants.{Token}
use Rattle.std.proofs.Common.{refl}
use Rattle.model_lawful.specs.Parts.{HasPart, HasVariable}
use Rattle.model_lawful.proofs.Tokening.{part_there, there_part}
use Rattle.model_lawful.proofs.decisions.has_token_part.Goals as goal

pub returns-in-Some : goal.returns-in-Some
returns-in-Some c =
    told_as c.has_part.result (HasPart c.args.model.now c.in-Some.pred c.args.part) (HasVariable c.args.model.now (Token c.args.token.now c.args.part))
    (part_there c.args.model.now c.args.token.now c.in-Some.pred c.in-Some.ensures c.args.part)
    (there_part c.args.model.now c.args.token.now c.in-Some.pred c.in-Some.ensures c.args.part) c.has_part.ensures

pub returns-in-None : goal.returns-in-None
returns-in-None c = told_not _ (λ has. c.in-None.ensures has.1.0.pred (has.1.0, has.1.1, refl))
