use Rattle.plan_inventory.proofs.Suiting.{token_answer, token_fails}
use Rattle.plan_inventory.proofs.tokens.suits_token.Goals as goal

pub returns-then-are_declared : goal.returns-then-are_declared
returns-then-are_declared c =
    token_answer c.args.model.now c.args.plan.now c.requires.orderly c.args.token.now c.args.values.now c.requires.takes_place c.lasts_as_said.result c.if-are_declared.ensures c.lasts_as_said.ensures

pub returns-else-are_declared : goal.returns-else-are_declared
returns-else-are_declared c = token_fails c.args.model.now c.args.plan.now c.requires.orderly c.args.token.now c.args.values.now c.requires.takes_place c.if-are_declared.ensures
