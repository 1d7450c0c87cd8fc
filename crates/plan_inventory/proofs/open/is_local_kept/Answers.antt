use Rattle.plan_inventory.proofs.Sweeping.{where_marked}
use Rattle.plan_inventory.proofs.open.is_local_kept.Goals as goal

pub returns-then-has_local : goal.returns-then-has_local
returns-then-has_local c = where_marked _ c.if-has_local.ensures _ c.has_local_value.result c.has_local_value.ensures

pub returns-else-has_local : goal.returns-else-has_local
returns-else-has_local c = λ marked. absurd (c.if-has_local.ensures marked)
