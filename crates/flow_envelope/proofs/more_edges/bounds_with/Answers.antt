use Rattle.std.proofs.Common.{subst}
use Rattle.temporal_core.specs.Network.{TimeNetwork}
use Rattle.temporal_core.specs.Schedule.{HasNoSchedule}
use Rattle.temporal_core.specs.TimeBounds.{AreBounds, IsNoBounds}
use Rattle.flow_envelope.proofs.more_edges.bounds_with.Goals as goal

pub unreachable-requires : goal.unreachable-requires
unreachable-requires c =
    let none = subst (IsNoBounds c.in_ok-network.network) c.in-Err-Cycle.field-0-is c.in-Err-Cycle.ensures.err in
    let no_schedule = subst (λ (network : TimeNetwork). HasNoSchedule network.edges) c.in_ok-network.ensures.with none.0 in
    no_schedule c.requires.schedule.0 c.requires.schedule.1

pub returns-in-Ok-clause-bounds : goal.returns-in-Ok-clause-bounds
returns-in-Ok-clause-bounds c = subst (λ (network : TimeNetwork). AreBounds network c.in-Ok.found) c.in_ok-network.ensures.with c.in-Ok.ensures.ok
