use Rattle.model_core.specs.Names.{token_at}
use Rattle.plan_inventory.proofs.Marking.{by_mark}
use Rattle.plan_inventory.proofs.Suiting.{slot_answer}
use Rattle.plan_inventory.proofs.Sweeping.{activated_in}
use Rattle.plan_inventory.proofs.asked.is_slot_asked.Goals as goal

pub returns-in-Some-clause-asked : goal.returns-in-Some-clause-asked
returns-in-Some-clause-asked c =
    slot_answer c.args.model.now c.args.plan.now (token_at c.args.root c.args.front.now) c.in-Some.parent.token.now c.in-Some.ensures.0
    (activated_in c.args.plan.now c.in-Some.parent.place c.in-Some.parent.token.now c.in-Some.ensures.1) c.args.last c.has_slot.result
    (by_mark _ _ c.has_slot.result (c.ask.ensures.marks.slots c.args.last.slot) c.has_slot.ensures)

pub returns-in-None-clause-asked : goal.returns-in-None-clause-asked
returns-in-None-clause-asked c = λ asks. c.in-None.ensures asks.is_open.activated
