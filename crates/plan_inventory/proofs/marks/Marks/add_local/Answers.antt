use Rattle.std.proofs.Common.{refl}
use Rattle.plan_inventory.proofs.Marking.{adds_local}
use Rattle.plan_inventory.proofs.marks.Marks.add_local.Goals as goal

pub returns : goal.returns
returns c = adds_local c.args.self.now _ c.args.number refl c.set_mark.ensures
