use Rattle.std.proofs.Common.{◌≡◌, length, refl, sym, ap, ◌∙◌, subst, arith}
use Rattle.std.specs.Prelude.{sum_by}
use Rattle.domain_core.specs.Domain.{slack}
use Rattle.cell_store.specs.Cells.{present}
use Rattle.constraint_net.specs.Networks.{AllConsistent}
use Rattle.constraint_net.specs.Steps.{Advances}
use Rattle.constraint_net.specs.Queues.{AreFrom, Queued}
use Rattle.constraint_net.specs.Waiting.{IsConsistentAt}
use Rattle.constraint_net.specs.declared.agenda.Agenda.{Agenda}
use Rattle.constraint_net.proofs.Advancing.{advances_refl}
use Rattle.constraint_net.proofs.Alerting.{notes_refl, no_loss}
use Rattle.constraint_net.proofs.Moving.{sinks_refl, sound_along}
use Rattle.constraint_net.proofs.Turns.{still_posted, turned, was_consistent, turned_empty, turned_out, all_propagated, taken_off, kept_taken, less_slack, fewer_wait}
use Rattle.constraint_net.proofs.Quiet.{foremost_there, left_from}
use Rattle.constraint_net.proofs.Rounds.{carried_on}
use Rattle.constraint_net.proofs.propagating.propagate.Goals as goal

pub loop-number-init : goal.loop-number-init
loop-number-init c =
    record {
      advances = advances_refl (AllConsistent c.args.tables.now c.args.constraints.now) (present c.args.domains.now.cells) c.requires.sound.are;
      carried = record {
        sinks = sinks_refl c.args.since c.args.domains.now.cells c.requires.sound.place;
        kept = c.requires.kept;
        notes = notes_refl (present c.args.domains.now.cells) c.args.domains.now.agenda.changed.items;
      };
      counted = omega arith;
      idle = λ from. (from, refl);
      room = refl;
    }

pub narrow_number-requires-clause-posted : goal.narrow_number-requires-clause-posted
narrow_number-requires-clause-posted c =
    still_posted c.args.tables.now c.args.constraints.now (present c.args.domains.now.cells) (present c.loop-number.domains.cells) c.loop-number.invariant.advances.within c.requires.posted

pub narrow_number-requires-clause-sound : goal.narrow_number-requires-clause-sound
narrow_number-requires-clause-sound c =
    let loop = c.loop-number in
    sound_along c.args.since c.args.domains.now.cells loop.domains.cells c.requires.sound loop.invariant.carried.sinks loop.invariant.advances.within loop.invariant.advances.are

pub returns-in_err-narrow_number-clause-propagated : goal.returns-in_err-narrow_number-clause-propagated
returns-in_err-narrow_number-clause-propagated c =
    let tables = c.args.tables.now in
    let constraints = c.args.constraints.now in
    let start = c.args.domains.now in
    let loop = c.loop-number in
    let step = c.narrow_number in
    turned_out tables constraints c.in-Some.number (present start.cells) (present loop.domains.cells) (present step.new.domains.cells) loop.invariant.advances c.from_residual.result c.from_residual.ensures.0 c.from_residual.ensures.1 c.in_err-narrow_number.ensures.steps

pub returns-in_err-narrow_number-clause-sinks : goal.returns-in_err-narrow_number-clause-sinks
returns-in_err-narrow_number-clause-sinks c =
    let tables = c.args.tables.now in
    let constraints = c.args.constraints.now in
    let start = c.args.domains.now in
    let loop = c.loop-number in
    let step = c.narrow_number in
    let carried =
    carried_on tables constraints c.in-Some.number c.args.since start.cells loop.domains.cells step.new.domains.cells start.agenda.changed.items loop.domains.agenda step.new.domains.agenda step.result
    c.requires.posted loop.invariant.advances loop.invariant.carried step.ensures.steps step.ensures.sinks step.ensures.alerts in
    carried.sinks

pub returns-in_err-narrow_number-clause-kept : goal.returns-in_err-narrow_number-clause-kept
returns-in_err-narrow_number-clause-kept c =
    let tables = c.args.tables.now in
    let constraints = c.args.constraints.now in
    let start = c.args.domains.now in
    let loop = c.loop-number in
    let step = c.narrow_number in
    let carried =
    carried_on tables constraints c.in-Some.number c.args.since start.cells loop.domains.cells step.new.domains.cells start.agenda.changed.items loop.domains.agenda step.new.domains.agenda step.result
    c.requires.posted loop.invariant.advances loop.invariant.carried step.ensures.steps step.ensures.sinks step.ensures.alerts in
    carried.kept

pub returns-in_err-narrow_number-clause-notes : goal.returns-in_err-narrow_number-clause-notes
returns-in_err-narrow_number-clause-notes c =
    let tables = c.args.tables.now in
    let constraints = c.args.constraints.now in
    let start = c.args.domains.now in
    let loop = c.loop-number in
    let step = c.narrow_number in
    let carried =
    carried_on tables constraints c.in-Some.number c.args.since start.cells loop.domains.cells step.new.domains.cells start.agenda.changed.items loop.domains.agenda step.new.domains.agenda step.result
    c.requires.posted loop.invariant.advances loop.invariant.carried step.ensures.steps step.ensures.sinks step.ensures.alerts in
    carried.notes

pub returns-in_err-narrow_number-clause-idle : goal.returns-in_err-narrow_number-clause-idle
returns-in_err-narrow_number-clause-idle c = λ from.
    let loop = c.loop-number in
    let so_far = loop.invariant.idle from in
    (c.narrow_number.ensures.past (so_far.0 c.in-Some.number (foremost_there c.in-Some.number loop.domains.agenda.waiting c.in-Some.ensures.first))).1 ∙ so_far.1

pub returns-in-Empty-clause-idle : goal.returns-in-Empty-clause-idle
returns-in-Empty-clause-idle c = λ from.
    let loop = c.loop-number in
    let so_far = loop.invariant.idle from in
    (c.narrow_number.ensures.past (so_far.0 c.in-Some.number (foremost_there c.in-Some.number loop.domains.agenda.waiting c.in-Some.ensures.first))).1 ∙ so_far.1

pub returns-in-Empty-clause-propagated : goal.returns-in-Empty-clause-propagated
returns-in-Empty-clause-propagated c =
    let tables = c.args.tables.now in
    let constraints = c.args.constraints.now in
    let start = c.args.domains.now in
    let loop = c.loop-number in
    let step = c.narrow_number in
    turned_empty tables constraints c.in-Some.number (present start.cells) (present loop.domains.cells) (present step.new.domains.cells) loop.invariant.advances c.in_ok-narrow_number.field-0 c.in-Empty.is c.in_ok-narrow_number.ensures.steps

pub returns-in-Empty-clause-sinks : goal.returns-in-Empty-clause-sinks
returns-in-Empty-clause-sinks c =
    let tables = c.args.tables.now in
    let constraints = c.args.constraints.now in
    let start = c.args.domains.now in
    let loop = c.loop-number in
    let step = c.narrow_number in
    let carried =
    carried_on tables constraints c.in-Some.number c.args.since start.cells loop.domains.cells step.new.domains.cells start.agenda.changed.items loop.domains.agenda step.new.domains.agenda step.result
    c.requires.posted loop.invariant.advances loop.invariant.carried step.ensures.steps step.ensures.sinks step.ensures.alerts in
    carried.sinks

pub returns-in-Empty-clause-kept : goal.returns-in-Empty-clause-kept
returns-in-Empty-clause-kept c =
    let tables = c.args.tables.now in
    let constraints = c.args.constraints.now in
    let start = c.args.domains.now in
    let loop = c.loop-number in
    let step = c.narrow_number in
    let carried =
    carried_on tables constraints c.in-Some.number c.args.since start.cells loop.domains.cells step.new.domains.cells start.agenda.changed.items loop.domains.agenda step.new.domains.agenda step.result
    c.requires.posted loop.invariant.advances loop.invariant.carried step.ensures.steps step.ensures.sinks step.ensures.alerts in
    carried.kept

pub returns-in-Empty-clause-notes : goal.returns-in-Empty-clause-notes
returns-in-Empty-clause-notes c =
    let tables = c.args.tables.now in
    let constraints = c.args.constraints.now in
    let start = c.args.domains.now in
    let loop = c.loop-number in
    let step = c.narrow_number in
    let carried =
    carried_on tables constraints c.in-Some.number c.args.since start.cells loop.domains.cells step.new.domains.cells start.agenda.changed.items loop.domains.agenda step.new.domains.agenda step.result
    c.requires.posted loop.invariant.advances loop.invariant.carried step.ensures.steps step.ensures.sinks step.ensures.alerts in
    carried.notes

pub loop-number-smaller-in-Same : goal.loop-number-smaller-in-Same
loop-number-smaller-in-Same c =
    let tables = c.args.tables.now in
    let constraints = c.args.constraints.now in
    let start = c.args.domains.now in
    let loop = c.loop-number in
    let step = c.narrow_number in
    let was = was_consistent tables constraints c.in-Some.number (present start.cells) (present loop.domains.cells) (present step.new.domains.cells) loop.invariant.advances c.in_ok-narrow_number.field-0 c.in-Same.is c.in_ok-narrow_number.ensures.steps in
    let quiet : step.new.domains.agenda ≡ loop.domains.agenda = no_loss (present loop.domains.cells) (present step.new.domains.cells) loop.domains.agenda step.new.domains.agenda was.0 step.ensures.told_of_loss in
    let waiting : step.new.domains.agenda.waiting ≡ loop.domains.agenda.waiting = ap (λ (a : Agenda). a.waiting) quiet in
    let off = taken_off c.in-Some.number loop.domains.agenda.waiting step.new.domains.agenda.waiting c.take-propagated.new.self c.take-propagated.result c.in-Some.ensures.first waiting c.take-propagated.ensures.taken in
    let slacks : sum_by slack (present step.new.domains.cells) ≡ sum_by slack (present loop.domains.cells) = ap (sum_by slack) was.0 in
    fewer_wait start.agenda.waiting.room (sum_by slack (present step.new.domains.cells)) (sum_by slack (present loop.domains.cells)) (length loop.domains.agenda.waiting.items) (length c.take-propagated.new.self.items) slacks off.0

pub loop-number-preserved-in-Same : goal.loop-number-preserved-in-Same
loop-number-preserved-in-Same c =
    let tables = c.args.tables.now in
    let constraints = c.args.constraints.now in
    let start = c.args.domains.now in
    let loop = c.loop-number in
    let step = c.narrow_number in
    let was = was_consistent tables constraints c.in-Some.number (present start.cells) (present loop.domains.cells) (present step.new.domains.cells) loop.invariant.advances c.in_ok-narrow_number.field-0 c.in-Same.is c.in_ok-narrow_number.ensures.steps in
    let quiet : step.new.domains.agenda ≡ loop.domains.agenda = no_loss (present loop.domains.cells) (present step.new.domains.cells) loop.domains.agenda step.new.domains.agenda was.0 step.ensures.told_of_loss in
    let waiting : step.new.domains.agenda.waiting ≡ loop.domains.agenda.waiting = ap (λ (a : Agenda). a.waiting) quiet in
    let off = taken_off c.in-Some.number loop.domains.agenda.waiting step.new.domains.agenda.waiting c.take-propagated.new.self c.take-propagated.result c.in-Some.ensures.first waiting c.take-propagated.ensures.taken in
    let carried =
    carried_on tables constraints c.in-Some.number c.args.since start.cells loop.domains.cells step.new.domains.cells start.agenda.changed.items loop.domains.agenda step.new.domains.agenda step.result
    c.requires.posted loop.invariant.advances loop.invariant.carried step.ensures.steps step.ensures.sinks step.ensures.alerts in
    record {
      advances = subst (λ s. Advances (AllConsistent tables constraints) (present start.cells) s) (sym was.0) loop.invariant.advances;
      carried = record {
        sinks = carried.sinks;
        kept = kept_taken tables constraints (present step.new.domains.cells) c.in-Some.number step.new.domains.agenda (record step.new.domains.agenda { waiting = c.take-propagated.new.self }) carried.kept
            (subst (IsConsistentAt tables constraints c.in-Some.number) (sym was.0) was.1) refl refl c.take-propagated.ensures.room off.1;
        notes = carried.notes;
      };
      counted = omega (arith, loop.invariant.counted, step.ensures.counted);
      idle = λ from.
          let so_far = loop.invariant.idle from in
          let past = step.ensures.past (so_far.0 c.in-Some.number (foremost_there c.in-Some.number loop.domains.agenda.waiting c.in-Some.ensures.first)) in (
            left_from (length constraints) step.new.domains.agenda.waiting c.take-propagated.new.self c.take-propagated.result c.take-propagated.ensures.taken
                (subst (λ (a : Agenda). AreFrom (length constraints) a.waiting.items) (sym past.0) so_far.0),
            past.1 ∙ so_far.1,
          );
      room = c.take-propagated.ensures.room ∙ ap (λ (q : Queued). q.room) waiting ∙ loop.invariant.room;
    }

pub loop-number-preserved : goal.loop-number-preserved
loop-number-preserved c =
    let tables = c.args.tables.now in
    let constraints = c.args.constraints.now in
    let start = c.args.domains.now in
    let loop = c.loop-number in
    let step = c.narrow_number in
    record {
      advances = (turned tables constraints c.in-Some.number (present start.cells) (present loop.domains.cells) (present step.new.domains.cells) loop.invariant.advances c.in_ok-narrow_number.field-0 c.in-Smaller.is c.in_ok-narrow_number.ensures.steps).0;
      carried = carried_on tables constraints c.in-Some.number c.args.since start.cells loop.domains.cells step.new.domains.cells start.agenda.changed.items loop.domains.agenda step.new.domains.agenda step.result
          c.requires.posted loop.invariant.advances loop.invariant.carried step.ensures.steps step.ensures.sinks step.ensures.alerts;
      counted = omega (arith, loop.invariant.counted, step.ensures.counted);
      idle = λ from.
          let so_far = loop.invariant.idle from in
          let past = step.ensures.past (so_far.0 c.in-Some.number (foremost_there c.in-Some.number loop.domains.agenda.waiting c.in-Some.ensures.first)) in
          (subst (λ (a : Agenda). AreFrom (length constraints) a.waiting.items) (sym past.0) so_far.0, past.1 ∙ so_far.1);
      room = step.ensures.alerts.stays.waiting.room ∙ loop.invariant.room;
    }

pub loop-number-smaller : goal.loop-number-smaller
loop-number-smaller c =
    let tables = c.args.tables.now in
    let constraints = c.args.constraints.now in
    let start = c.args.domains.now in
    let loop = c.loop-number in
    let step = c.narrow_number in
    let less = (turned tables constraints c.in-Some.number (present start.cells) (present loop.domains.cells) (present step.new.domains.cells) loop.invariant.advances c.in_ok-narrow_number.field-0 c.in-Smaller.is c.in_ok-narrow_number.ensures.steps).1 in
    less_slack start.agenda.waiting.room (length loop.domains.agenda.waiting.items) (length step.new.domains.agenda.waiting.items) (sum_by slack (present loop.domains.cells)) (sum_by slack (present step.new.domains.cells)) less
    (omega (arith, step.ensures.alerts.stays.waiting.few c.in-Some.ensures.few, step.ensures.alerts.stays.waiting.room, loop.invariant.room))

pub returns-clause-propagated : goal.returns-clause-propagated
returns-clause-propagated c =
    let loop = c.loop-number in
    (loop.invariant.advances, all_propagated c.args.tables.now c.args.constraints.now (present loop.domains.cells) loop.domains.agenda loop.invariant.carried.kept c.in_default.ensures.first)

pub returns-clause-kept : goal.returns-clause-kept
returns-clause-kept c = c.loop-number.invariant.carried.kept

pub returns-clause-sinks : goal.returns-clause-sinks
returns-clause-sinks c = c.loop-number.invariant.carried.sinks

pub returns-clause-notes : goal.returns-clause-notes
returns-clause-notes c = c.loop-number.invariant.carried.notes

pub returns-clause-none : goal.returns-clause-none
returns-clause-none c = c.in_default.ensures.first

pub returns-clause-idle : goal.returns-clause-idle
returns-clause-idle c = λ from. (c.loop-number.invariant.idle from).1
