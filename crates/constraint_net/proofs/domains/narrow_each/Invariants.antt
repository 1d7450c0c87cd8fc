use Rattle.cell_store.specs.Cells.{present}
use Rattle.constraint_net.specs.Agendas.{Alerts, TellsOfLoss}
use Rattle.constraint_net.specs.Moves.{SinksAt}
use Rattle.constraint_net.specs.Reading.{SupportedAt}
use Rattle.constraint_net.specs.Steps.{AdvancesTo, FitBefore}
use Rattle.constraint_net.proofs.domains.narrow_each.Given as goal

abbrev pub invariant-loop-place : goal.invariant-loop-place
invariant-loop-place g l = record {
  steps : AdvancesTo (FitBefore (SupportedAt (g.C.Narrow.reach l.constraint) (g.C.Narrow.holds l.constraint) l.gathered.args.now) l.place) (present l.fn.cells) l.change (present l.cells);
  sinks : SinksAt l.gathered.args.now l.since l.fn.cells l.cells;
  alerts : Alerts (present l.fn.cells) (present l.cells) l.fn.agenda l.agenda;
  told_of_loss : TellsOfLoss (present l.fn.cells) (present l.cells) l.fn.agenda l.agenda;
}
