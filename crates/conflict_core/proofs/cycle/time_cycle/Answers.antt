use Rattle.std.proofs.Common.{List, subst}
use Rattle.std.specs.Prelude.{IfOk}
use Rattle.db_edges.specs.declared.edge.NamedEdge.{NamedEdge}
use Rattle.db_edges.specs.TimeCycle.{IsTimeCycle}
use Rattle.conflict_core.proofs.Telling.{cycle_told}
use Rattle.conflict_core.proofs.cycle.time_cycle.Goals as goal

pub returns-in-Ok : goal.returns-in-Ok
returns-in-Ok c =
    let found = c.cycle_of.result in
    let is = subst (λ (edges : List NamedEdge). IfOk found (λ cycle. IsTimeCycle edges cycle.items)) c.as_slice.ensures.value c.cycle_of.ensures in
    cycle_told c.args.db.now c.in-Ok.edges.items found c.or_memory.result c.in-Ok.ensures is c.or_memory.ensures
