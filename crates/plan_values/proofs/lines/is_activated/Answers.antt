use Rattle.plan_values.specs.Keys.{key_token}
use Rattle.plan_values.proofs.Matching.{match_bool}
use Rattle.plan_values.proofs.Naming.{not_activated, is_active, isnt_active}
use Rattle.plan_values.proofs.lines.is_activated.Goals as goal

pub returns-in-Some : goal.returns-in-Some
returns-in-Some c =
    let token = key_token c.args.token in
    let line = c.in-Some.line.now in
    match_bool c.activates.result _ _ _ _ (is_active c.args.plan.now c.requires token line c.in-Some.ensures)
    (isnt_active c.args.plan.now c.requires token line c.in-Some.ensures) c.activates.ensures

pub returns-in-None : goal.returns-in-None
returns-in-None c = not_activated c.args.plan.now (key_token c.args.token) c.in-None.ensures
