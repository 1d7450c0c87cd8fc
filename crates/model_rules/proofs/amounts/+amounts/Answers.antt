use Rattle.std.proofs.Common.{◌≡◌, ℕ, ◌+◌, ◌∙◌, sym, subst}
use Rattle.model_core.specs.declared.rule.Entry.{Entry}
use Rattle.model_rules.specs.Amounts.{Leaves, amount_in}
use Rattle.model_rules.proofs.Splitting.{less_room, no_room, room_left, slot_amount, local_amount, amount_item}
use Rattle.model_rules.proofs.amounts.+amounts.Goals as goal

pub left_behind-loop-entry-preserved : goal.left_behind-loop-entry-preserved
left_behind-loop-entry-preserved t c =
    less_room c.args.amount c.args.entries.now c.loop-entry.entry-index c.entry-item.result c.loop-entry-test.true c.entry-item.is
    c.args.room c.loop-entry.left c.in-Some.less c.in-Some.ensures c.loop-entry.invariant

pub left_behind-returns-in-None : goal.left_behind-returns-in-None
left_behind-returns-in-None t c =
    no_room c.args.amount c.args.entries.now c.loop-entry.entry-index c.entry-item.result c.loop-entry-test.true c.entry-item.is
    c.args.room c.loop-entry.left c.in-None.ensures c.loop-entry.invariant

pub left_behind-returns : goal.left_behind-returns
left_behind-returns t c = room_left c.args.amount c.args.entries.now c.loop-entry.entry-index c.args.room c.loop-entry.left c.loop-entry-test.false c.loop-entry.invariant

pub left_behind_one-returns-in-Slot : goal.left_behind_one-returns-in-Slot
left_behind_one-returns-in-Slot t c =
    subst (λ (e : Entry). c.args.room + amount_in c.args.amount e ≡ c.args.room) (sym c.in-Slot.is) (slot_amount c.args.amount _ c.args.room)

pub left_behind_one-returns-in-Local : goal.left_behind_one-returns-in-Local
left_behind_one-returns-in-Local t c =
    subst (λ (e : Entry). c.args.room + amount_in c.args.amount e ≡ c.args.room) (sym c.in-Local.is) (local_amount c.args.amount _ c.args.room)

pub left_behind_one-returns-in-Item : goal.left_behind_one-returns-in-Item
left_behind_one-returns-in-Item t c =
    subst (λ (e : Entry). Leaves c.args.room (amount_in c.args.amount e) c.left_of.result) (sym c.in-Item.is)
    (subst (λ (n : ℕ). Leaves c.args.room n c.left_of.result) (c.of_item.ensures ∙ sym (amount_item c.args.amount _)) c.left_of.ensures)
