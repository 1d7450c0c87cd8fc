use Rattle.std.proofs.Common.{sym, subst}
use Rattle.eu_name.specs.declared.name.TokenName.{TokenName}
use Rattle.eu_name.specs.declared.name.VarName.TheVariants.{Token}
use Rattle.model_core.specs.Names.{NamesVariable, token_at}
use Rattle.model_core.proofs.Resolving.{no_variable, no_part_variable, part_named}
use Rattle.plan_resolve.proofs.resolving.part_variable.Goals as goal

pub returns-in_default : goal.returns-in_default
returns-in_default c = no_variable c.args.model.now c.args.name.now (λ whole. cc) c.in_default.ensures

pub returns-in_default-part_named : goal.returns-in_default-part_named
returns-in_default-part_named c =
    no_part_variable c.args.model.now c.args.name.now (token_at c.in-Some.reached.root c.args.name.now.steps) c.in-Some.reached.pred c.args.word.now
    c.requires.lawful c.requires.tail c.in-Some.ensures c.in_default-part_named.ensures

pub returns : goal.returns
returns c =
    subst (λ (token : TokenName). NamesVariable c.args.model.now c.args.name.now (Token token c.in-Some-part_named.part)) (sym c.in_ok-token_of.ensures)
    (part_named c.args.model.now c.args.name.now (token_at c.in-Some.reached.root c.args.name.now.steps) c.in-Some.reached.pred c.args.word.now c.in-Some-part_named.part
    c.requires.tail c.in-Some.ensures c.in-Some-part_named.ensures)
