use Rattle.plan_values.specs.Keys.{key_token}
use Rattle.plan_inventory.proofs.Sweeping.{slot_kept_answer}
use Rattle.plan_inventory.proofs.open.is_slot_kept.Goals as goal

pub returns-then-has_slot : goal.returns-then-has_slot
returns-then-has_slot c =
    slot_kept_answer _ c.if-has_slot.ensures c.args.plan.now c.args.token.now (key_token c.of_slot.result) c.args.rule c.args.slot c.from.result c.is_taken.result c.from.ensures c.of_slot.ensures
    c.is_taken.ensures

pub returns-else-has_slot : goal.returns-else-has_slot
returns-else-has_slot c = λ marked. absurd (c.if-has_slot.ensures marked)
