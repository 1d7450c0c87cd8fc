use Rattle.std.proofs.Common.{sym, subst, arith}
use Rattle.std.specs.Prelude.{IfSome}
use Rattle.cell_store.specs.Cells.{present, IsPlace}
use Rattle.constraint_net.specs.Agendas.{Stays, IsAlerted, SteppedFrom}
use Rattle.constraint_net.proofs.Alerting.{stays_refl, stays_trans, stepped_none, stepped_more, woken, idle, alerts_since}
use Rattle.constraint_net.proofs.domains.alert_steps.Goals.{in-Some, in_default}
use Rattle.constraint_net.proofs.domains.alert_steps.Goals as goal

pub loop-step-init : goal.loop-step-init
loop-step-init c = record {
  stays = stays_refl c.args.agenda.now;
  stepped = subst (λ step. SteppedFrom c.args.mark step c.args.cells.now c.args.agenda.now c.args.agenda.now) (sym c.steps-step.ensures) (stepped_none c.args.mark c.args.cells.now c.args.agenda.now);
}

pub loop-step-preserved : goal.loop-step-preserved
loop-step-preserved c =
    let loop = c.loop-step in
    let told : Stays loop.agenda c.match-written.agenda × IfSome c.written.result (λ cell. IsAlerted cell loop.agenda c.match-written.agenda) = elim c.match-written.branch [
      | in-Some w ↦ woken c.written.result w.in-Some.variable loop.agenda c.match-written.agenda w.wake.new.self w.in-Some.is w.agenda-is w.wake.ensures
      | in_default w ↦ idle c.written.result loop.agenda c.match-written.agenda w.in_default.is w.agenda-is
    ] in
    record {
      stays = stays_trans c.args.agenda.now loop.agenda c.match-written.agenda loop.invariant.stays told.0;
      stepped = stepped_more c.args.mark loop.step c.args.cells.now c.written.result c.args.agenda.now loop.agenda c.match-written.agenda loop.invariant.stepped c.written.ensures loop.invariant.stays told.0 told.1;
    }

pub returns : goal.returns
returns c =
    let loop = c.loop-step in
    alerts_since c.args.mark loop.step c.args.cells.now c.args.agenda.now loop.agenda loop.invariant.stays loop.invariant.stepped
    (subst (λ place. IsPlace c.args.cells.now place (present c.args.cells.now))
    (omega (arith, c.mark-present.ensures.newest, c.requires.mark, c.steps-step.ensures, c.steps-step-end.ensures, c.loop-step-test.false, loop.auto.step, loop.auto.step-end)) c.mark-present.ensures.place)
