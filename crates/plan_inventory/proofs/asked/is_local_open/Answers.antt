use Rattle.std.proofs.Common.{◌∙◌, sym, subst}
use Rattle.plan_defs.specs.Plans.{IsActivatedIn}
use Rattle.plan_inventory.proofs.Marking.{by_mark}
use Rattle.plan_inventory.proofs.Suiting.{local_answer}
use Rattle.plan_inventory.proofs.Sweeping.{activated_in}
use Rattle.plan_inventory.proofs.asked.is_local_open.Goals as goal

pub returns-in-Some-clause-asked : goal.returns-in-Some-clause-asked
returns-in-Some-clause-asked c =
    local_answer c.args.model.now c.args.plan.now c.args.token.now c.in-Some.found.token.now (c.in-Some.ensures.0 ∙ c.of.ensures)
    (activated_in c.args.plan.now c.in-Some.found.place c.in-Some.found.token.now c.in-Some.ensures.1) c.args.rule c.args.number c.has_local.result
    (by_mark _ _ c.has_local.result (c.ask.ensures.marks.locals c.args.number) c.has_local.ensures)

pub returns-in-None-clause-asked : goal.returns-in-None-clause-asked
returns-in-None-clause-asked c = λ asks. c.in-None.ensures (subst (IsActivatedIn c.args.plan.now) (sym c.of.ensures) asks.is_open.activated)
