use Rattle.std.proofs.Common.{refl}
use Rattle.plan_inventory.proofs.Marking.{adds_slot}
use Rattle.plan_inventory.proofs.marks.Marks.add_slot.Goals as goal

pub returns : goal.returns
returns c = adds_slot c.args.self.now _ c.args.number c.set_mark.ensures refl
