use Rattle.plan_inventory.proofs.Sweeping.{slot_least, local_least, open_kept}
use Rattle.plan_inventory.proofs.open.unkept_of.Goals as goal

pub returns-in-Some : goal.returns-in-Some
returns-in-Some c = slot_least c.args.model.now c.args.plan.now c.args.line c.args.token.now c.requires.activated c.in-Some.found.rule c.in-Some.found.number c.in-Some.ensures

pub returns-in-Some-unkept_local : goal.returns-in-Some-unkept_local
returns-in-Some-unkept_local c =
    local_least c.args.model.now c.args.plan.now c.args.line c.args.token.now c.requires.activated c.in-Some-unkept_local.found.rule c.in-Some-unkept_local.found.number c.in-None.ensures c.in-Some-unkept_local.ensures

pub returns-in-None-unkept_local : goal.returns-in-None-unkept_local
returns-in-None-unkept_local c = open_kept c.args.model.now c.args.plan.now c.args.line c.args.token.now c.requires.activated c.in-None.ensures c.in-None-unkept_local.ensures
