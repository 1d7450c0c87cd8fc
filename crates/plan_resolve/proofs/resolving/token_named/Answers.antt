use Rattle.std.proofs.Common.{sym, subst}
use Rattle.model_core.specs.Names.{NamesToken, token_at}
use Rattle.model_core.proofs.Resolving.{no_token, token_named}
use Rattle.plan_resolve.proofs.resolving.token_named.Goals as goal

pub returns-in_default : goal.returns-in_default
returns-in_default c = λ token named. c.in_default.not-None named.0

pub returns-in_default-token_reached : goal.returns-in_default-token_reached
returns-in_default-token_reached c = no_token c.args.model.now c.args.name.now c.in_default-token_reached.ensures

pub returns : goal.returns
returns c =
    subst (NamesToken c.args.model.now c.args.name.now) (sym c.in_ok-token_of.ensures)
    (token_named c.args.model.now c.args.name.now (token_at c.in-Some.reached.root c.args.name.now.steps) c.in-Some.reached.pred c.in-None.is c.in-Some.ensures)
