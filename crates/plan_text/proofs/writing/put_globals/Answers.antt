use Rattle.plan_text.proofs.Globals.{global_of_plan, globals_step}
use Rattle.plan_text.proofs.writing.put_globals.Goals as goal

pub put_global-requires-clause-value : goal.put_global-requires-clause-value
put_global-requires-clause-value c =
    global_of_plan c.args.model.now c.args.plan.now c.as_slice-value-items.result.now c.loop-number.number c.requires.lawful c.requires.plan c.as_slice-value-items.ensures c.loop-number-test.true

pub loop-number-preserved : goal.loop-number-preserved
loop-number-preserved c =
    globals_step c.args.model.now c.args.plan.now c.as_slice-value-items.result.now c.loop-number.number c.args.out.now.items c.loop-number.out.items c.put_global.new.out.items c.requires.lawful c.requires.plan c.as_slice-value-items.ensures
    c.loop-number-test.true c.in_ok-put_global.ensures c.loop-number.invariant
