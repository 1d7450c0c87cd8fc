use Rattle.temporal_core.specs.Cycle.{edges_at}
use Rattle.temporal_core.proofs.Walks.{no_schedule}
use Rattle.temporal_core.proofs.cycle.positive_cycle_has_no_schedule.Goals as goal

pub returns : goal.returns
returns c = λ edges places is.
    no_schedule (edges_at edges places) (record { cycle = edges_at edges places; within = λ edge among. among; closed = is.closed; simple = is.simple; positive = is.positive })
