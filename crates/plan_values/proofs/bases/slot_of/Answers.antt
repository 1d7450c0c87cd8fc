use Rattle.plan_values.proofs.Matching.{match_option}
use Rattle.plan_values.proofs.Declaring.{slot_found, slot_none, no_front}
use Rattle.plan_values.proofs.bases.slot_of.Goals as goal

pub returns-in-Some : goal.returns-in-Some
returns-in-Some c =
    match_option c.slot_behind.result _ _ _ _ (slot_none c.args.model.now c.args.root c.args.front.now c.args.last c.in-Some.pred c.in-Some.ensures)
    (λ slot leads. slot_found c.args.model.now c.args.root c.args.front.now c.args.last c.in-Some.pred slot.now c.in-Some.ensures leads) c.slot_behind.ensures

pub returns-in-None : goal.returns-in-None
returns-in-None c = no_front c.args.model.now c.args.root c.args.front.now c.args.last c.in-None.ensures
