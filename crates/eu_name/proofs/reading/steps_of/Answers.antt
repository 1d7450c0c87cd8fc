use Rattle.eu_name.proofs.Endings.{none_read, one_read}
use Rattle.eu_name.proofs.reading.steps_of.Goals as goal

pub loop-step-init : goal.loop-step-init
loop-step-init c = rw c.new-steps.ensures (none_read c.args.text.now)

pub loop-step-preserved : goal.loop-step-preserved
loop-step-preserved c = one_read c.args.text.now c.loop-step.steps _ c.loop-step.rest.now c.in-Some.step c.in-Some.after.now c.in_ok-push.ensures.ok c.loop-step.invariant c.in-Some.ensures

pub returns : goal.returns
returns c = (c.loop-step.rest.now, record { read = c.loop-step.invariant; last = c.in_default.ensures })
