use Rattle.std.proofs.Common.{arith}
use Rattle.model_core.specs.Blocks.{OfSlot}
use Rattle.plan_inventory.proofs.Sweeping.{slot_below, few_slots, no_rule_stands}
use Rattle.plan_inventory.proofs.open.count_slots.Goals as goal

pub overflow_cast-result : goal.overflow_cast-result
overflow_cast-result c = omega (arith, few_slots c.args.model.now c.requires c.args.token.now c.args.rule c.in-Some.found.now c.in-Some.ensures, c.len.ensures)

pub returns-in-Some : goal.returns-in-Some
returns-in-Some c = λ plan number there.
    omega (arith, slot_below c.args.model.now c.requires c.args.token.now c.args.rule c.in-Some.found.now c.in-Some.ensures plan number there, c.len.ensures)

pub returns-in-None : goal.returns-in-None
returns-in-None c = λ plan number there. absurd (no_rule_stands c.args.model.now plan c.args.token.now c.args.rule (OfSlot number) c.in-None.ensures there)
