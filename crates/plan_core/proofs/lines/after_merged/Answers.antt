use Rattle.plan_core.proofs.Lining.{merged_found}
use Rattle.plan_core.proofs.lines.after_merged.Goals as goal

pub returns : goal.returns
returns c =
    merged_found c.args.model.now c.args.known.now.keys c.args.cursor.now.rest.now c.one_token.new.cursor.rest.now c.one_target-target.new.cursor.rest.now c.in_ok-token.token c.one_target-target.result c.merged_line.result
    c.in_ok-token.ensures c.one_target-target.ensures c.merged_line.ensures
