use Rattle.std.proofs.Common.{◌∙◌, ap, arith}
use Rattle.model_core.specs.Block.{plain_entries}
use Rattle.plan_values.specs.Meanings.{context_of}
use Rattle.plan_values.specs.Openings.{Allows}
use Rattle.plan_values.proofs.Matching.{read_item}
use Rattle.plan_inventory.proofs.Marking.{marks_slot, marks_local, marks_item, marks_branch, marks_closed, none_first, one_first, all_first}
use Rattle.plan_inventory.proofs.standing.+marking.Goals as goal

pub mark_among-loop-entry-init : goal.mark_among-loop-entry-init
mark_among-loop-entry-init t c = none_first (Allows c.args.model.now c.args.plan.now (context_of c.args.at)) c.args.entries.now c.args.marks.now

pub mark_among-loop-entry-preserved : goal.mark_among-loop-entry-preserved
mark_among-loop-entry-preserved t c =
    one_first (Allows c.args.model.now c.args.plan.now (context_of c.args.at)) c.args.entries.now c.loop-entry.entry-index c.entry-item.result _ _ _
    (read_item c.args.entries.now c.loop-entry.entry-index c.entry-item.result c.loop-entry-test.true c.entry-item.is) c.loop-entry.invariant c.mark_with.ensures

pub mark_among-returns : goal.mark_among-returns
mark_among-returns t c = all_first (Allows c.args.model.now c.args.plan.now (context_of c.args.at)) c.args.entries.now c.loop-entry.entry-index _ _ (omega (arith, c.loop-entry-test.false)) c.loop-entry.invariant

pub mark_with-returns-in-Slot : goal.mark_with-returns-in-Slot
mark_with-returns-in-Slot t c = marks_slot (Allows c.args.model.now c.args.plan.now (context_of c.args.at)) c.args.entry.now c.in-Slot.slot _ _ c.in-Slot.is c.add_slot.ensures

pub mark_with-returns-in-Local : goal.mark_with-returns-in-Local
mark_with-returns-in-Local t c = marks_local (Allows c.args.model.now c.args.plan.now (context_of c.args.at)) c.args.entry.now c.in-Local.local _ _ c.in-Local.is c.add_local.ensures

pub mark_with-returns-in-Item : goal.mark_with-returns-in-Item
mark_with-returns-in-Item t c = marks_item (Allows c.args.model.now c.args.plan.now (context_of c.args.at)) c.args.entry.now _ _ c.in-Item.is

pub mark_with-returns-in-Some : goal.mark_with-returns-in-Some
mark_with-returns-in-Some t c =
    marks_branch (Allows c.args.model.now c.args.plan.now (context_of c.args.at)) c.args.entry.now c.in-Branch.guard c.in-Branch.then c.in-Branch.otherwise (plain_entries c.as_slice.result.now)
    c.in-Some.side _ _ c.in-Branch.is
    (ap plain_entries c.as_slice.ensures.value ∙ (c.block.view_is ∙ c.block_on-block.ensures)) c.in-Some.ensures c.mark_among.ensures

pub mark_with-returns-in_default : goal.mark_with-returns-in_default
mark_with-returns-in_default t c =
    marks_closed (Allows c.args.model.now c.args.plan.now (context_of c.args.at)) c.args.entry.now c.in-Branch.guard c.in-Branch.then c.in-Branch.otherwise _ c.in-Branch.is c.in_default.ensures
