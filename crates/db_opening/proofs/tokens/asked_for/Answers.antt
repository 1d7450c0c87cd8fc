use Rattle.db_opening.specs.Parts.{slot_asked}
use Rattle.db_opening.proofs.Parting.{reaches_next, reaches_step, reaches_end, reaches_all}
use Rattle.db_opening.proofs.tokens.asked_for.Goals as goal

pub loop-step-init : goal.loop-step-init
loop-step-init c = λ reached has.
    reaches_all c.args.model.now c.args.token.now reached c.as_slice.result.now c.index-as_slice-token.result c.as_slice-step-items.result.now c.as_slice.ensures
    c.index-as_slice-token.is c.as_slice-step-items.ensures has

pub asked_by-asked-requires : goal.asked_by-asked-requires
asked_by-asked-requires c =
    let reached = c.requires.0 in
    let on = reaches_step c.args.model.now (slot_asked c.loop-step.asked) reached c.as_slice-step-items.result.now c.loop-step.step-index _ c.loop-step-test.true
    (c.loop-step.invariant reached c.requires.1) in
    (on.0, on.1)

pub loop-step-preserved : goal.loop-step-preserved
loop-step-preserved c = λ reached has.
    reaches_next c.args.model.now (slot_asked c.loop-step.asked) (slot_asked c.asked_by-asked.result) reached _ _
    (reaches_step c.args.model.now (slot_asked c.loop-step.asked) reached c.as_slice-step-items.result.now c.loop-step.step-index _ c.loop-step-test.true
    (c.loop-step.invariant reached has)) c.asked_by-asked.ensures

pub returns : goal.returns
returns c =
    reaches_end c.args.model.now c.args.token.now (slot_asked c.loop-step.asked) c.requires.0 c.as_slice-step-items.result.now c.loop-step.step-index c.loop-step-test.false
    c.requires.1 (c.loop-step.invariant c.requires.0 c.requires.1)
