use Rattle.plan_values.specs.Keys.{key_token}
use Rattle.plan_values.proofs.Counting.{rejectable_root}
use Rattle.plan_values.proofs.terms.is_rejectable.Goals as goal

pub returns-in-Some : goal.returns-in-Some
returns-in-Some c =
    rejectable_root c.args.model.now (key_token c.args.token) c.in-Some.root.now c.in-Some.ensures c.may_be_rejected.result c.if-not-is_root.ensures c.may_be_rejected.ensures
