use Rattle.plan_core.proofs.Lining.{local_found}
use Rattle.plan_core.proofs.lines.after_local.Goals as goal

pub returns : goal.returns
returns c =
    local_found c.args.model.now c.args.known.now.keys c.args.cursor.now.rest.now c.one_local.new.cursor.rest.now c.one_value-value.new.cursor.rest.now c.in_ok-local.local c.one_value-value.result c.local_line.result
    c.in_ok-local.ensures c.one_value-value.ensures c.local_line.ensures
