use Rattle.std.proofs.Common.{refl, ◌∙◌}
use Rattle.europa_run.specs.Steps.{Told}
use Rattle.europa_run.proofs.Halting.{no_file}
use Rattle.europa_run.proofs.Scripts.{session_runs}
use Rattle.europa_run.proofs.Stepping.{asked_steps, printed_steps, stopped_steps, talked_steps}
use Rattle.europa_run.proofs.Written.{printed_runs, unanswered_runs}
use Rattle.europa_run.proofs.run.serve.Goals as goal

pub returns-in-Ok-Printed-clause-output : goal.returns-in-Ok-Printed-clause-output
returns-in-Ok-Printed-clause-output g c =
    let old : Told = record { files = g.F.Shelf.files c.args.shelf.now; left = g.S.Source.left c.args.input.now; written = g.O.Sink.written c.args.out.now } in
    let new : Told = record { files = g.F.Shelf.files c.answer_request.new.shelf; left = g.S.Source.left c.args.input.now; written = g.O.Sink.written c.print.new.out } in
    rw c.outside.ensures.is (printed_runs c.args.request.now old new refl c.in-Ok-Printed.printed c.print.result
    (rw c.in-Ok-Printed.field-0-is at c.in-Ok-Printed.ensures.comes) c.print.ensures.prints)

pub returns-in-Ok-Session-clause-output : goal.returns-in-Ok-Session-clause-output
returns-in-Ok-Session-clause-output g c =
    let old : Told = record { files = g.F.Shelf.files c.args.shelf.now; left = g.S.Source.left c.args.input.now; written = g.O.Sink.written c.args.out.now } in
    let new : Told = record { files = g.F.Shelf.files c.answer_request.new.shelf; left = g.S.Source.left c.talk.new.input; written = g.O.Sink.written c.talk.new.out } in
    rw c.in_session.ensures.is (session_runs c.args.request.now old new c.in-Ok-Session.db c.talk.result
    (rw c.in-Ok-Session.field-0-is at c.in-Ok-Session.ensures.comes) c.talk.ensures.told)

pub returns-in-Err-clause-output : goal.returns-in-Err-clause-output
returns-in-Err-clause-output g c =
    let old : Told = record { files = g.F.Shelf.files c.args.shelf.now; left = g.S.Source.left c.args.input.now; written = g.O.Sink.written c.args.out.now } in
    let new : Told = record { files = g.F.Shelf.files c.answer_request.new.shelf; left = g.S.Source.left c.args.input.now; written = g.O.Sink.written c.args.out.now } in
    rw c.outside-in-Err.ensures.is (unanswered_runs c.args.request.now old new refl c.in-Err.fault c.in-Err.ensures.comes refl)

pub returns-in-Ok-Printed-clause-steps : goal.returns-in-Ok-Printed-clause-steps
returns-in-Ok-Printed-clause-steps g c = λ words asks.
    let old : Told = record { files = g.F.Shelf.files c.args.shelf.now; left = g.S.Source.left c.args.input.now; written = g.O.Sink.written c.args.out.now } in
    let new : Told = record { files = g.F.Shelf.files c.answer_request.new.shelf; left = g.S.Source.left c.args.input.now; written = g.O.Sink.written c.print.new.out } in
    let comes = rw c.in-Ok-Printed.field-0-is at c.in-Ok-Printed.ensures.comes in
    rw c.outside.ensures.is (asked_steps words c.args.request.now old new _ asks
    (λ files told. printed_steps c.args.request.now files old new c.in-Ok-Printed.printed c.print.result refl (comes files told) c.print.ensures.prints))

pub returns-in-Ok-Session-clause-steps : goal.returns-in-Ok-Session-clause-steps
returns-in-Ok-Session-clause-steps g c = λ words asks.
    let old : Told = record { files = g.F.Shelf.files c.args.shelf.now; left = g.S.Source.left c.args.input.now; written = g.O.Sink.written c.args.out.now } in
    let new : Told = record { files = g.F.Shelf.files c.answer_request.new.shelf; left = g.S.Source.left c.talk.new.input; written = g.O.Sink.written c.talk.new.out } in
    let comes = rw c.in-Ok-Session.field-0-is at c.in-Ok-Session.ensures.comes in
    rw c.in_session.ensures.is (asked_steps words c.args.request.now old new _ asks
    (λ files told. talked_steps c.args.request.now files old new c.in-Ok-Session.db c.talk.result (comes files told) c.talk.ensures.told))

pub returns-in-Err-clause-steps : goal.returns-in-Err-clause-steps
returns-in-Err-clause-steps g c = λ words asks.
    let old : Told = record { files = g.F.Shelf.files c.args.shelf.now; left = g.S.Source.left c.args.input.now; written = g.O.Sink.written c.args.out.now } in
    let new : Told = record { files = g.F.Shelf.files c.answer_request.new.shelf; left = g.S.Source.left c.args.input.now; written = g.O.Sink.written c.args.out.now } in
    rw c.outside-in-Err.ensures.is (asked_steps words c.args.request.now old new _ asks
    (λ files told. stopped_steps c.args.request.now files old new c.in-Err.fault refl refl (c.in-Err.ensures.comes files told)))

pub returns-in-Ok-Printed-clause-untouched : goal.returns-in-Ok-Printed-clause-untouched
returns-in-Ok-Printed-clause-untouched g c = λ is. no_file _ (c.outside.ensures.file ∙ c.print.ensures.no_read) is

pub returns-in-Ok-Session-clause-untouched : goal.returns-in-Ok-Session-clause-untouched
returns-in-Ok-Session-clause-untouched g c = λ is. no_file _ c.in_session.ensures.file is
