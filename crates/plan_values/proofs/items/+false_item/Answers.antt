use Rattle.std.proofs.Common.{◌≡◌, refl, ◌∙◌, ap, arith}
use Rattle.model_core.specs.Block.{plain_entries}
use Rattle.plan_values.specs.Meanings.{context_of}
use Rattle.plan_values.proofs.Walking.{fails_here, more_passed, entry_reached, item_fails, item_passes, branch_scans, branch_fails, sides_reached, count_next}
use Rattle.plan_values.proofs.items.+false_item.Goals as goal

pub false_among-returns-in-Err-clause-found : goal.false_among-returns-in-Err-clause-found
false_among-returns-in-Err-clause-found t c = λ top path reached.
    let context = context_of c.args.at in
    let i = c.loop-entry.entry-index in
    let entry = c.entry-item.result in
    fails_here c.args.model.now c.args.plan.now context top path c.args.entries.now i c.args.first c.loop-entry.number entry c.loop-entry-test.true c.entry-item.is c.in-Err.found
    (c.in-Err.ensures.found top path i (entry_reached c.args.model.now c.args.plan.now context top path c.args.entries.now i c.args.first c.loop-entry.number entry c.loop-entry-test.true c.entry-item.is c.args.reached reached))
    (c.loop-entry.invariant.passed top path reached)

pub false_among-loop-entry-preserved : goal.false_among-loop-entry-preserved
false_among-loop-entry-preserved t c =
    let context = context_of c.args.at in
    let i = c.loop-entry.entry-index in
    let entry = c.entry-item.result in
    record {
      counted = omega (arith, c.in-Ok.ensures.counted, c.loop-entry.invariant.counted, count_next c.args.entries.now i entry c.loop-entry-test.true c.entry-item.is);
      passed = λ top path reached.
          more_passed c.args.model.now c.args.plan.now context top path c.args.entries.now i c.args.first c.loop-entry.number entry c.loop-entry-test.true c.entry-item.is c.in-Ok.next
          c.in-Ok.ensures.counted
          (c.in-Ok.ensures.found top path i (entry_reached c.args.model.now c.args.plan.now context top path c.args.entries.now i c.args.first c.loop-entry.number entry c.loop-entry-test.true c.entry-item.is c.args.reached reached))
          (c.loop-entry.invariant.passed top path reached);
    }

pub false_in-returns-then-is_false-clause-found : goal.false_in-returns-then-is_false-clause-found
false_in-returns-then-is_false-clause-found t c = λ top path place reached.
    item_fails c.args.model.now c.args.plan.now (context_of c.args.at) top path place c.args.first c.args.entry.now c.in-Item.item c.args.reached c.in-Item.is c.if-is_false.ensures reached

pub false_in-returns-else-is_false-clause-found : goal.false_in-returns-else-is_false-clause-found
false_in-returns-else-is_false-clause-found t c = λ top path place reached.
    item_passes c.args.model.now c.args.plan.now (context_of c.args.at) top path place c.args.entry.now c.in-Item.item c.args.reached c.in-Item.is c.if-is_false.ensures reached

pub false_in-returns-in-Ok-clause-found : goal.false_in-returns-in-Ok-clause-found
false_in-returns-in-Ok-clause-found t c = λ top path place reached.
    let context = context_of c.args.at in
    let thens = plain_entries c.as_slice.result.now in
    let others = plain_entries c.as_slice-entries.result.now in
    let same : thens ≡ c.in-Branch.then = ap plain_entries c.as_slice.ensures.value ∙ c.then.view_is in
    let same' : others ≡ c.in-Branch.otherwise = ap plain_entries c.as_slice-entries.ensures.value ∙ c.otherwise.view_is in
    let sides = sides_reached c.args.model.now c.args.plan.now context top path place c.args.first c.args.entry.now c.in-Branch.guard c.in-Branch.then c.in-Branch.otherwise thens others c.in-Branch.is same same'
    c.args.reached c.opens-then_open.result c.opens-otherwise_open.result reached c.opens-then_open.ensures c.opens-otherwise_open.ensures in
    branch_scans c.args.model.now c.args.plan.now context top path place c.args.first c.args.entry.now c.in-Branch.guard c.in-Branch.then c.in-Branch.otherwise thens others c.in-Branch.is same same'
    c.in-Ok.next c.false_among-in-Ok.result (c.in-Ok.ensures.found top _ sides.0) c.in-Ok.ensures.counted (c.false_among-in-Ok.ensures.found top _ sides.1)

pub false_in-returns-in-Err-clause-found : goal.false_in-returns-in-Err-clause-found
false_in-returns-in-Err-clause-found t c = λ top path place reached.
    let context = context_of c.args.at in
    let thens = plain_entries c.as_slice.result.now in
    let same : thens ≡ c.in-Branch.then = ap plain_entries c.as_slice.ensures.value ∙ c.then.view_is in
    let sides = sides_reached c.args.model.now c.args.plan.now context top path place c.args.first c.args.entry.now c.in-Branch.guard c.in-Branch.then c.in-Branch.otherwise thens c.in-Branch.otherwise c.in-Branch.is same refl
    c.args.reached c.opens-then_open.result c.opens-otherwise_open.result reached c.opens-then_open.ensures c.opens-otherwise_open.ensures in
    branch_fails c.args.model.now c.args.plan.now context top path place c.args.first c.args.entry.now c.in-Branch.guard c.in-Branch.then c.in-Branch.otherwise thens c.in-Branch.otherwise c.in-Branch.is same refl
    c.in-Err.found (c.in-Err.ensures.found top _ sides.0)
