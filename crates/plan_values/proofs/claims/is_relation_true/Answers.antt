use Rattle.model_core.specs.Tokens.{slot_token}
use Rattle.plan_values.proofs.Saying.{relation_second}
use Rattle.plan_values.proofs.claims.is_relation_true.Goals as goal

pub returns : goal.returns
returns c =
    let token = c.args.token.now in
    let asked = slot_token token c.args.rule c.args.slot in
    relation_second c.args.model.now c.args.plan.now token asked c.args.rel c.stated_by-stated.result.first c.stated_by-stated.result.second (c.stated_by-stated.ensures token asked)
    c.is_stated_true-2.result c.if-not-is_stated_true.ensures c.is_stated_true-2.ensures
