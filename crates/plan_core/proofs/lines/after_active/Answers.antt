use Rattle.std.proofs.lemmas.Result.{err_from_is_err_and}
use Rattle.plan_resolve.proofs.Naming.{named_pred}
use Rattle.plan_core.proofs.Lining.{active_found, active_stops}
use Rattle.plan_core.proofs.lines.after_active.Goals as goal

pub active_values-values-requires-clause-there : goal.active_values-values-requires-clause-there
active_values-values-requires-clause-there c = named_pred c.args.model.now c.args.known.now.keys c.args.cursor.now.rest.now c.one_token.new.cursor.rest.now c.in_ok-token.token c.requires c.in_ok-token.ensures

pub returns-in_err-token : goal.returns-in_err-token
returns-in_err-token c =
    let p = err_from_is_err_and c.from_residual.result c.from_residual.ensures.1 in
    rw (p.1, p.2) (active_stops c.args.model.now c.args.known.now.keys c.args.fact c.args.cursor.now.rest.now c.one_token.new.cursor.rest.now _ c.in_err-token.ensures)

pub returns : goal.returns
returns c =
    active_found c.args.model.now c.args.known.now.keys c.args.fact c.args.cursor.now.rest.now c.one_token.new.cursor.rest.now c.active_values-values.new.cursor.rest.now c.in_ok-token.token c.active_values-values.result c.active_line.result
    c.in_ok-token.ensures c.active_values-values.ensures c.active_line.ensures
