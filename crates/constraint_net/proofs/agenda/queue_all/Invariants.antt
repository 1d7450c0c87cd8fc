use Rattle.std.proofs.Common.{ℕ, ◌<◌, get_or}
use Rattle.std.specs.Prelude.{Contains}
use Rattle.constraint_net.specs.Queues.{Lengthens}
use Rattle.constraint_net.proofs.agenda.queue_all.Given as goal

abbrev pub invariant-loop-number : goal.invariant-loop-number
invariant-loop-number l = record {
  lengthens : Lengthens l.fn.waiting l.waiting;
  added : (k d : ℕ) → k < l.number-index → get_or l.numbers k d < l.fn.waiting.room → Contains l.waiting.items (get_or l.numbers k d);
}
