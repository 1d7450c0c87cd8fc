use Rattle.std.proofs.Common.{◌≡◌, ◌+◌, ◌*◌, ◌≤◌, length}
use Rattle.std.specs.Prelude.{sum_by}
use Rattle.domain_core.specs.Domain.{slack}
use Rattle.cell_store.specs.Cells.{present}
use Rattle.constraint_net.specs.Queues.{AreFrom}
use Rattle.constraint_net.specs.Steps.{Advances}
use Rattle.constraint_net.specs.Networks.{AllConsistent}
use Rattle.constraint_net.proofs.Rounds.{Carried}
use Rattle.constraint_net.proofs.propagating.propagate.Given as goal

abbrev pub invariant-loop-number : goal.invariant-loop-number
invariant-loop-number l = record {
  advances : Advances (AllConsistent l.tables l.constraints) (present l.fn.domains.cells) (present l.domains.cells);
  carried : Carried l.tables l.constraints l.since l.fn.domains.cells l.fn.domains.agenda.changed.items l.domains.cells l.domains.agenda;
  counted : l.fn.domains.work ≤ l.domains.work;
  idle : AreFrom (length l.constraints) l.fn.domains.agenda.waiting.items
      → AreFrom (length l.constraints) l.domains.agenda.waiting.items × (l.domains.work ≡ l.fn.domains.work);
  room : l.domains.agenda.waiting.room ≡ l.fn.domains.agenda.waiting.room;
}

abbrev pub decreases-loop-number : goal.decreases-loop-number
decreases-loop-number l = sum_by slack (present l.domains.cells) * (l.fn.domains.agenda.waiting.room + 1) + length l.domains.agenda.waiting.items
