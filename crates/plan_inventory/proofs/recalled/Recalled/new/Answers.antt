use Rattle.std.proofs.Common.{refl}
use Rattle.plan_inventory.proofs.Recalling.{recalls_none}
use Rattle.plan_inventory.proofs.recalled.Recalled.new.Goals as goal

pub returns : goal.returns
returns c = λ model plan. recalls_none model plan _ refl
