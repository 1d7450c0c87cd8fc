use Rattle.plan_inventory.proofs.Sweeping.{activated_in}
use Rattle.plan_check.proofs.Itemizing.{item_least, items_kept}
use Rattle.plan_check.proofs.items.false_of.Goals as goal

pub false_in_rules-requires-clause-activated : goal.false_in_rules-requires-clause-activated
false_in_rules-requires-clause-activated c = activated_in c.args.plan.now c.args.line c.args.token.now c.requires.activated

pub returns-in-Some : goal.returns-in-Some
returns-in-Some c = item_least c.args.model.now c.args.plan.now c.args.line c.args.token.now c.requires.activated c.in-Some.found.rule c.in-Some.found.item c.in-Some.ensures

pub returns-in-None : goal.returns-in-None
returns-in-None c = items_kept c.args.model.now c.args.plan.now c.args.line c.args.token.now c.requires.activated c.in-None.ensures
