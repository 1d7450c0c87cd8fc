use Rattle.std.proofs.Common.{refl}
use Rattle.plan_inventory.proofs.Marking.{none_marked}
use Rattle.plan_inventory.proofs.marks.Marks.new.Goals as goal

pub returns : goal.returns
returns c = none_marked _ refl refl
