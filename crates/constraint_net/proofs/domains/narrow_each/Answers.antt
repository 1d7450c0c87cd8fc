use Rattle.std.proofs.Common.{length, inr, refl, sym, subst, arith}
use Rattle.std.specs.Prelude.{All, Ok}
use Rattle.cell_store.specs.Cells.{present}
use Rattle.constraint_net.specs.Agendas.{HasVariables}
use Rattle.constraint_net.specs.Arguments.{IsArgument}
use Rattle.constraint_net.specs.Reading.{SupportedAt}
use Rattle.constraint_net.specs.Steps.{FitBefore}
use Rattle.constraint_net.proofs.Advancing.{advanced, stopped, none_yet, steps_length, one_more_to, failed_after}
use Rattle.constraint_net.proofs.Alerting.{alerts_refl, alerts_trans, loss_trans, has_still}
use Rattle.constraint_net.proofs.Moving.{at_refl, at_trans, sound_along}
use Rattle.constraint_net.proofs.domains.narrow_each.Goals as goal

pub loop-place-init : goal.loop-place-init
loop-place-init g c = record {
  steps = none_yet (SupportedAt (g.C.Narrow.reach c.args.constraint.now) (g.C.Narrow.holds c.args.constraint.now) c.args.gathered.args.now) (present c.args.cells.now);
  sinks = at_refl c.args.gathered.args.now c.args.since c.args.cells.now c.requires.sound.place;
  alerts = alerts_refl (present c.args.cells.now) c.args.agenda.now;
  told_of_loss = inr (refl, refl);
}

pub narrow_at-requires-clause-sound : goal.narrow_at-requires-clause-sound
narrow_at-requires-clause-sound g c =
    let fits = SupportedAt (g.C.Narrow.reach c.args.constraint.now) (g.C.Narrow.holds c.args.constraint.now) c.args.gathered.args.now in
    let loop = c.loop-place in
    let so_far = advanced (FitBefore fits loop.place) (present c.args.cells.now) (present loop.cells) loop.change c.requires.sound.are loop.invariant.steps in
    sound_along c.args.since c.args.cells.now loop.cells c.requires.sound loop.invariant.sinks.sinks so_far.within so_far.are

pub narrow_at-requires-clause-ready : goal.narrow_at-requires-clause-ready
narrow_at-requires-clause-ready g c =
    let fits = SupportedAt (g.C.Narrow.reach c.args.constraint.now) (g.C.Narrow.holds c.args.constraint.now) c.args.gathered.args.now in
    let loop = c.loop-place in
    let start = present c.args.cells.now in
    let same = steps_length (FitBefore fits loop.place) start (present loop.cells) (Ok loop.change) c.requires.sound.are loop.invariant.steps in
    has_still (length (present loop.cells)) c.args.agenda.now loop.agenda loop.invariant.alerts.stays (subst (λ count. HasVariables count c.args.agenda.now) (sym same) c.requires.ready)

pub narrow_at-requires-clause-arguments : goal.narrow_at-requires-clause-arguments
narrow_at-requires-clause-arguments g c =
    let fits = SupportedAt (g.C.Narrow.reach c.args.constraint.now) (g.C.Narrow.holds c.args.constraint.now) c.args.gathered.args.now in
    let loop = c.loop-place in
    let start = present c.args.cells.now in
    let same = steps_length (FitBefore fits loop.place) start (present loop.cells) (Ok loop.change) c.requires.sound.are loop.invariant.steps in
    subst (λ count. All (IsArgument count) c.args.gathered.args.now) (sym same) c.requires.arguments

pub returns-in_err-narrow_at : goal.returns-in_err-narrow_at
returns-in_err-narrow_at g c =
    let fits = SupportedAt (g.C.Narrow.reach c.args.constraint.now) (g.C.Narrow.holds c.args.constraint.now) c.args.gathered.args.now in
    let args = c.args.gathered.args.now in
    let start = present c.args.cells.now in
    let loop = c.loop-place in
    let step = c.narrow_at in
    let are = (advanced (FitBefore fits loop.place) start (present loop.cells) loop.change c.requires.sound.are loop.invariant.steps).are in
    record {
      steps = failed_after fits loop.place (length args) start (present loop.cells) (present step.new.cells) loop.change c.from_residual.result c.loop-place-test.true c.requires.sound.are c.from_residual.ensures.0 loop.invariant.steps
          c.in_err-narrow_at.ensures.steps;
      sinks = at_trans args c.args.since c.args.cells.now loop.cells step.new.cells loop.invariant.sinks step.ensures.sinks;
      alerts = alerts_trans start (present loop.cells) (present step.new.cells) c.args.agenda.now loop.agenda step.new.agenda
          (omega (arith, steps_length (fits loop.place) (present loop.cells) (present step.new.cells) step.result are step.ensures.steps)) loop.invariant.alerts step.ensures.alerts;
      told_of_loss = loss_trans start (present loop.cells) (present step.new.cells) c.args.agenda.now loop.agenda step.new.agenda loop.invariant.told_of_loss step.ensures.told_of_loss;
    }

pub returns-in-Empty : goal.returns-in-Empty
returns-in-Empty g c =
    let fits = SupportedAt (g.C.Narrow.reach c.args.constraint.now) (g.C.Narrow.holds c.args.constraint.now) c.args.gathered.args.now in
    let args = c.args.gathered.args.now in
    let start = present c.args.cells.now in
    let loop = c.loop-place in
    let step = c.narrow_at in
    let are = (advanced (FitBefore fits loop.place) start (present loop.cells) loop.change c.requires.sound.are loop.invariant.steps).are in
    record {
      steps = stopped fits loop.place (length args) start (present step.new.cells) c.then-change.result c.loop-place-test.true c.in-Empty.is
          (one_more_to fits loop.place start (present loop.cells) (present step.new.cells) loop.change c.in_ok-narrow_at.field-0 c.then-change.result c.requires.sound.are c.then-change.ensures loop.invariant.steps
          c.in_ok-narrow_at.ensures.steps);
      sinks = at_trans args c.args.since c.args.cells.now loop.cells step.new.cells loop.invariant.sinks step.ensures.sinks;
      alerts = alerts_trans start (present loop.cells) (present step.new.cells) c.args.agenda.now loop.agenda step.new.agenda
          (omega (arith, steps_length (fits loop.place) (present loop.cells) (present step.new.cells) step.result are step.ensures.steps)) loop.invariant.alerts step.ensures.alerts;
      told_of_loss = loss_trans start (present loop.cells) (present step.new.cells) c.args.agenda.now loop.agenda step.new.agenda loop.invariant.told_of_loss step.ensures.told_of_loss;
    }

pub loop-place-preserved : goal.loop-place-preserved
loop-place-preserved g c =
    let fits = SupportedAt (g.C.Narrow.reach c.args.constraint.now) (g.C.Narrow.holds c.args.constraint.now) c.args.gathered.args.now in
    let args = c.args.gathered.args.now in
    let start = present c.args.cells.now in
    let loop = c.loop-place in
    let step = c.narrow_at in
    let are = (advanced (FitBefore fits loop.place) start (present loop.cells) loop.change c.requires.sound.are loop.invariant.steps).are in
    record {
      steps = one_more_to fits loop.place start (present loop.cells) (present step.new.cells) loop.change c.in_ok-narrow_at.field-0 c.then-change.result c.requires.sound.are c.then-change.ensures loop.invariant.steps
          c.in_ok-narrow_at.ensures.steps;
      sinks = at_trans args c.args.since c.args.cells.now loop.cells step.new.cells loop.invariant.sinks step.ensures.sinks;
      alerts = alerts_trans start (present loop.cells) (present step.new.cells) c.args.agenda.now loop.agenda step.new.agenda
          (omega (arith, steps_length (fits loop.place) (present loop.cells) (present step.new.cells) step.result are step.ensures.steps)) loop.invariant.alerts step.ensures.alerts;
      told_of_loss = loss_trans start (present loop.cells) (present step.new.cells) c.args.agenda.now loop.agenda step.new.agenda loop.invariant.told_of_loss step.ensures.told_of_loss;
    }
