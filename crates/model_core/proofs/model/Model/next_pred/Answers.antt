use Rattle.std.proofs.Common.{◌≡◌, None, Some, slice_get, refl}
use Rattle.model_core.proofs.Rules.{leads_nowhere}
use Rattle.model_core.proofs.model.Model.next_pred.Goals as goal

pub returns-in_err-rule : goal.returns-in_err-rule
returns-in_err-rule c = rw c.from_residual.ensures (λ slot leads. c.in_err-rule.ensures leads.rule leads.has_rule)

pub returns-in_err-slot : goal.returns-in_err-slot
returns-in_err-slot c =
    let none : slice_get c.in_ok-rule.rule.now.slots c.args.step.slot ≡ None = cc (c.in_err-slot.ensures) in
    rw c.from_residual-in_err-slot.ensures (leads_nowhere c.args.self.now c.args.pred c.args.step c.in_ok-rule.rule.now c.in_ok-rule.ensures none)

pub returns : goal.returns
returns c =
    let some : slice_get c.in_ok-rule.rule.now.slots c.args.step.slot ≡ Some c.in_ok-slot.slot.now = cc (c.in_ok-slot.ensures) in
    (c.in_ok-slot.slot.now, record { rule = c.in_ok-rule.rule.now; has_rule = c.in_ok-rule.ensures; is_slot = some }, refl)
