use Rattle.flow_envelope.specs.Labels.{AreLabels, AreGrown}
use Rattle.flow_envelope.proofs.Leading.{IsSwept}
use Rattle.flow_envelope.proofs.labels.sweep.Given as goal

abbrev pub invariant-loop-place : goal.invariant-loop-place
invariant-loop-place l = record {
  grown : AreGrown l.initial.labels.adders.items l.initial.labels.takers.items l.labels.adders.items l.labels.takers.items l.initial.labels.next l.labels.next;
  labels : AreLabels l.flow.pairs.items l.flow.room.items l.labels.adders.items l.labels.takers.items l.labels.next;
  swept : IsSwept l.flow.pairs.items l.flow.more.items l.labels.adders.items l.labels.takers.items l.initial.labels.next l.labels.next l.place;
}
