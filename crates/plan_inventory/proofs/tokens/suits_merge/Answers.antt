use Rattle.plan_values.specs.Keys.{key_token}
use Rattle.plan_inventory.proofs.Suiting.{merge_answer, merge_nowhere}
use Rattle.plan_inventory.proofs.tokens.suits_merge.Goals as goal

pub returns-in-Some : goal.returns-in-Some
returns-in-Some c =
    merge_answer c.args.model.now c.args.plan.now c.requires.orderly c.args.token.now c.args.target.now c.requires.merged (key_token c.of.result) c.in-Some.values.now c.are_declared.result
    c.of.ensures c.if-is_same_token.ensures c.if-not-have_same_predicate.ensures c.in-Some.ensures c.are_declared.ensures

pub returns-in-None : goal.returns-in-None
returns-in-None c =
    merge_nowhere c.args.model.now c.args.plan.now c.requires.orderly c.args.token.now c.args.target.now c.requires.merged (key_token c.of.result) c.of.ensures c.in-None.ensures
