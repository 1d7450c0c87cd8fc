use Rattle.std.proofs.Common.{refl, ◌∙◌}
use Rattle.europa_run.specs.Steps.{Told}
use Rattle.europa_run.proofs.Halting.{no_file}
use Rattle.europa_run.proofs.Stepping.{usage_steps, unread_steps}
use Rattle.europa_run.proofs.Written.{memory_runs, usage_runs}
use Rattle.europa_run.proofs.run.carry_out.Goals as goal

pub returns-in-Ok-None-clause-output : goal.returns-in-Ok-None-clause-output
returns-in-Ok-None-clause-output g c =
    let old : Told = record { files = g.F.Shelf.files c.args.shelf.now; left = g.S.Source.left c.args.input.now; written = g.O.Sink.written c.args.out.now } in
    let new : Told = record { files = g.F.Shelf.files c.args.shelf.now; left = g.S.Source.left c.args.input.now; written = g.O.Sink.written c.print_usage.new.out } in
    rw c.outside.ensures.is (usage_runs c.args.words.now old new refl c.print_usage.result (rw c.in-Ok-None.field-0-is at c.in-Ok-None.ensures) c.print_usage.ensures.printed)

pub returns-in-Err-clause-output : goal.returns-in-Err-clause-output
returns-in-Err-clause-output g c =
    let old : Told = record { files = g.F.Shelf.files c.args.shelf.now; left = g.S.Source.left c.args.input.now; written = g.O.Sink.written c.args.out.now } in
    memory_runs c.args.words.now old old refl refl

pub returns-in-Ok-None-clause-steps : goal.returns-in-Ok-None-clause-steps
returns-in-Ok-None-clause-steps g c =
    let old : Told = record { files = g.F.Shelf.files c.args.shelf.now; left = g.S.Source.left c.args.input.now; written = g.O.Sink.written c.args.out.now } in
    let new : Told = record { files = g.F.Shelf.files c.args.shelf.now; left = g.S.Source.left c.args.input.now; written = g.O.Sink.written c.print_usage.new.out } in
    rw c.outside.ensures.is (usage_steps c.args.words.now old new c.print_usage.result refl (rw c.in-Ok-None.field-0-is at c.in-Ok-None.ensures) c.print_usage.ensures.printed)

pub returns-in-Err-clause-steps : goal.returns-in-Err-clause-steps
returns-in-Err-clause-steps g c =
    let old : Told = record { files = g.F.Shelf.files c.args.shelf.now; left = g.S.Source.left c.args.input.now; written = g.O.Sink.written c.args.out.now } in
    unread_steps c.args.words.now old

pub returns-in-Ok-None-clause-untouched : goal.returns-in-Ok-None-clause-untouched
returns-in-Ok-None-clause-untouched g c = λ is. no_file _ (c.outside.ensures.file ∙ c.print_usage.ensures.no_read) is
