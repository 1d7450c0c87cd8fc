use Rattle.plan_values.specs.Keys.{key_token}
use Rattle.plan_values.proofs.Matching.{match_option}
use Rattle.plan_values.proofs.Naming.{not_own, is_own, isnt_own}
use Rattle.plan_values.proofs.lines.own_values.Goals as goal

pub returns-in-Some : goal.returns-in-Some
returns-in-Some c =
    let token = key_token c.args.token in
    let line = c.in-Some.line.now in
    match_option c.values_in.result _ _ _ _ (isnt_own c.args.plan.now c.requires token line c.in-Some.ensures)
    (λ values. is_own c.args.plan.now c.requires token line c.in-Some.ensures values.now) c.values_in.ensures

pub returns-in-None : goal.returns-in-None
returns-in-None c = not_own c.args.plan.now (key_token c.args.token) c.in-None.ensures
