use Rattle.std.proofs.Common.{[], ◌∷◌, ◌++◌, refl}
use Rattle.eu_name.proofs.Endings.{none_read, one_read}
use Rattle.eu_name.proofs.reading.after_steps.Goals as goal

pub loop-after-init : goal.loop-after-init
loop-after-init c = ([], none_read c.args.text.now)

pub loop-after-preserved : goal.loop-after-preserved
loop-after-preserved c =
    let read = c.loop-after.invariant in
    (read.0 ++ c.in-Some.field-0-0 ∷ [], one_read c.args.text.now read.0 _ c.loop-after.rest.now c.in-Some.field-0-0 c.in-Some.after.now refl read.1 c.in-Some.ensures)

pub returns : goal.returns
returns c =
    let read = c.loop-after.invariant in
    (read.0, record { read = read.1; last = c.in_default.ensures })
