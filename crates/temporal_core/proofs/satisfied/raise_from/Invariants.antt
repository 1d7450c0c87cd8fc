use Rattle.temporal_core.specs.Satisfied.{RaisesFrom}
use Rattle.temporal_core.proofs.Raising.{IsAfter, IsFrom, untold}
use Rattle.temporal_core.proofs.satisfied.raise_from.Given as goal

abbrev pub invariant-loop-next : goal.invariant-loop-next
invariant-loop-next l = record {
  from : IsFrom l.graph.edges.items l.point l.next;
  raised : RaisesFrom l.graph.edges.items (IsAfter l.next) l.point l.fixed l.fn.values l.fn.queue.items l.values l.queue.items;
}

abbrev pub decreases-loop-next : goal.decreases-loop-next
decreases-loop-next l = untold l.next
