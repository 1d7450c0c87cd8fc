-- The token's predicate has a role, or the token has none.
use Rattle.std.proofs.Common.{sym}
use Rattle.db_resources.proofs.Predicates.{role_told}
use Rattle.db_resources.proofs.actor.role_at.Goals as goal

pub returns : goal.returns
returns g c =
    role_told c.args.model.now (g.V.View.state c.args.view.now) c.args.place c.in-Some.token.now (sym c.in-Some.ensures)
    c.in-Some-pred_of.pred.now c.role.result c.in-Some-pred_of.ensures c.role.ensures
