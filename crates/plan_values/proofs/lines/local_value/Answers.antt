use Rattle.eu_name.specs.declared.name.VarName.TheVariants as variables
use Rattle.plan_values.specs.Keys.{key_token}
use Rattle.plan_values.proofs.Matching.{match_option}
use Rattle.plan_values.proofs.Naming.{is_local, isnt_local, no_local}
use Rattle.plan_values.proofs.lines.local_value.Goals as goal

pub returns-in-Some : goal.returns-in-Some
returns-in-Some c =
    let name = variables.Local (key_token c.args.token) c.args.rule c.args.number in
    let line = c.in-Some.line.now in
    match_option c.local_in.result _ _ _ _ (isnt_local c.args.plan.now c.requires name line c.in-Some.ensures)
    (λ value. is_local c.args.plan.now c.requires name line value c.in-Some.ensures) c.local_in.ensures

pub returns-in-None : goal.returns-in-None
returns-in-None c = no_local c.args.plan.now c.requires (variables.Local (key_token c.args.token) c.args.rule c.args.number) c.in-None.ensures
