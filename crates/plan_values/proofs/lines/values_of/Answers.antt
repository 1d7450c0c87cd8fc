use Rattle.std.proofs.Common.{inl}
use Rattle.plan_values.specs.Keys.{key_token}
use Rattle.plan_values.proofs.Matching.{match_option}
use Rattle.plan_values.proofs.Naming.{values_found, values_own}
use Rattle.plan_values.proofs.lines.values_of.Goals as goal

pub returns-in-Some : goal.returns-in-Some
returns-in-Some c =
    let token = key_token c.args.token in
    let target = c.in-Some.target.now in
    values_found c.args.plan.now c.requires token target (key_token c.of.result) c.own_values.result c.of.ensures c.in-Some.ensures c.own_values.ensures

pub returns-in-None : goal.returns-in-None
returns-in-None c =
    match_option c.own_values-in-None.result _ _ _ _
    (λ none values has. none values (values_own c.args.plan.now c.requires (key_token c.args.token) values c.in-None.ensures has))
    (λ values takes. inl takes) c.own_values-in-None.ensures
