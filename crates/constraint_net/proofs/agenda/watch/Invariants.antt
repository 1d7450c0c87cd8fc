use Rattle.std.proofs.Common.{◌≡◌, ℕ, take, length}
use Rattle.std.specs.Prelude.{Contains}
use Rattle.constraint_net.specs.Agendas.{watchers_at}
use Rattle.constraint_net.specs.declared.constraint.NetArg.TheVariants.{Var}
use Rattle.constraint_net.proofs.agenda.watch.Given as goal

abbrev pub invariant-loop-arg : goal.invariant-loop-arg
invariant-loop-arg l = record {
  lists : length l.watchers ≡ length l.fn.watchers;
  others : (variable other : ℕ) → Contains (watchers_at l.fn.watchers variable) other → Contains (watchers_at l.watchers variable) other;
  joined : (variable : ℕ) → Contains (take l.arg-index l.args) (Var variable) → Contains (watchers_at l.watchers variable) l.number;
}
