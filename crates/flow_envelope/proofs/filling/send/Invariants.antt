use Rattle.std.proofs.Common.{◌≡◌}
use Rattle.temporal_core.specs.Satisfied.{value_sum}
use Rattle.flow_envelope.specs.Flow.{IsFlow, IsMoved}
use Rattle.flow_envelope.specs.Labels.{label_at, IsStart}
use Rattle.flow_envelope.proofs.filling.send.Given as goal

abbrev pub invariant-loop-next : goal.invariant-loop-next
invariant-loop-next l = record {
  flow : IsFlow l.flow.pairs.items l.flow.more.items l.flow.room.items;
  moved : IsMoved l.initial.flow.pairs.items l.initial.flow.more.items l.initial.flow.room.items l.flow.pairs.items l.flow.more.items l.flow.room.items;
  same : value_sum l.flow.more.items ≡ value_sum l.initial.flow.more.items;
  start : IsStart l.flow.pairs.items l.flow.more.items l.flow.room.items l.labels.adders.items l.labels.takers.items l.place;
}

abbrev pub decreases-loop-next : goal.decreases-loop-next
decreases-loop-next l = (label_at l.labels.adders.items l.place).rank
