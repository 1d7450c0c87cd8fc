use Rattle.std.proofs.Common.{sym, subst}
use Rattle.eu_name.specs.declared.name.TokenName.{TokenName}
use Rattle.eu_name.specs.declared.name.VarName.TheVariants.{Local}
use Rattle.model_core.specs.Names.{NamesVariable, token_at}
use Rattle.model_core.proofs.Resolving.{no_variable, no_local_variable, local_named}
use Rattle.model_core.proofs.model.Model.resolve_local.Goals as goal

pub returns-in_default : goal.returns-in_default
returns-in_default c = no_variable c.args.self.now c.args.name.now (λ whole. cc) c.in_default.ensures

pub returns-in_default-local_of : goal.returns-in_default-local_of
returns-in_default-local_of c =
    no_local_variable c.args.self.now c.args.name.now (token_at c.in-Some.reached.root c.args.name.now.steps) c.in-Some.reached.pred c.args.rule c.args.number
    c.requires.lawful c.requires.tail c.in-Some.ensures c.in_default-local_of.ensures

pub returns : goal.returns
returns c =
    subst (λ (token : TokenName). NamesVariable c.args.self.now c.args.name.now (Local token c.args.rule c.args.number)) (sym c.in_ok-token.ensures)
    (local_named c.args.self.now c.args.name.now (token_at c.in-Some.reached.root c.args.name.now.steps) c.in-Some.reached.pred c.args.rule c.args.number c.in-Some-local_of.field-0.now
    c.requires.tail c.in-Some.ensures c.in-Some-local_of.ensures)
