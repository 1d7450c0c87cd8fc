use borrow.Author.Differences.{up, down}
use Rattle.std.proofs.Common.{◌≡◌, ◌-◌, length}
use Rattle.temporal_core.specs.Satisfied.{value_sum}
use Rattle.flow_envelope.specs.Flow.{IsFlow, IsMoved}
use Rattle.flow_envelope.proofs.filling.fill.Given as goal

abbrev pub invariant-loop-start : goal.invariant-loop-start
invariant-loop-start l = record {
  flow : IsFlow l.flow.pairs.items l.flow.more.items l.flow.room.items;
  moved : IsMoved l.initial.flow.pairs.items l.initial.flow.more.items l.initial.flow.room.items l.flow.pairs.items l.flow.more.items l.flow.room.items;
  adders : length l.labels.adders.items ≡ length l.flow.more.items;
  takers : length l.labels.takers.items ≡ length l.flow.more.items;
}

abbrev pub decreases-loop-start : goal.decreases-loop-start
decreases-loop-start l = up (value_sum l.flow.more.items) - down (value_sum l.flow.more.items)
