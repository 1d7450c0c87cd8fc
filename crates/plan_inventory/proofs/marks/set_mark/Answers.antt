use Rattle.std.proofs.Common.{arith}
use Rattle.plan_inventory.proofs.Marking.{set_past}
use Rattle.plan_inventory.proofs.marks.set_mark.Goals as goal

pub returns-else-place-marks : goal.returns-else-place-marks
returns-else-place-marks c = set_past c.args.marks.now c.args.number (omega (arith, c.if-place-marks.false))
