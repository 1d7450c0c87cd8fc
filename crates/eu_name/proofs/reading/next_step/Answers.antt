use Rattle.eu_name.proofs.Endings.{no_slot}
use Rattle.eu_name.proofs.reading.next_step.Goals as goal

pub returns-in_err-slot : goal.returns-in_err-slot
returns-in_err-slot c = rw c.from_residual-in_err-slot.ensures (no_slot c.args.text.now c.in_ok-rule.rest.now c.in_ok-rule.rule c.in_ok-rule.ensures c.in_err-slot.ensures)
