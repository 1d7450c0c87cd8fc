use Rattle.plan_values.specs.Keys.{key_token}
use Rattle.plan_values.proofs.Matching.{match_option}
use Rattle.plan_values.proofs.Naming.{not_merged, is_merged, isnt_merged}
use Rattle.plan_values.proofs.lines.target_of.Goals as goal

pub returns-in-Some : goal.returns-in-Some
returns-in-Some c =
    let token = key_token c.args.token in
    let line = c.in-Some.line.now in
    match_option c.target_in.result _ _ _ _ (isnt_merged c.args.plan.now c.requires token line c.in-Some.ensures)
    (λ target. is_merged c.args.plan.now c.requires token line c.in-Some.ensures target.now) c.target_in.ensures

pub returns-in-None : goal.returns-in-None
returns-in-None c = not_merged c.args.plan.now (key_token c.args.token) c.in-None.ensures
