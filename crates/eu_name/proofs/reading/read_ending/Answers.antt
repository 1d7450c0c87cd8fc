use Rattle.std.proofs.lemmas.Result.{err_from_is_err_and}
use Rattle.eu_name.proofs.Endings.{steps_are, ending_is, ending_fault}
use Rattle.eu_name.proofs.reading.read_ending.Goals as goal

pub returns-in_err-tail : goal.returns-in_err-tail
returns-in_err-tail c =
    let p = err_from_is_err_and c.from_residual.result c.from_residual.ensures.1 in
    let had = c.after_steps.ensures in
    rw (p.1, p.2) (ending_fault c.args.text.now had.0 c.after_steps.result.now had.1 c.in_err-tail.field-0.0 c.in_err-tail.ensures)

pub returns-in_err-steps : goal.returns-in_err-steps
returns-in_err-steps c =
    let p = err_from_is_err_and c.from_residual-in_err-steps.result c.from_residual-in_err-steps.ensures.1 in
    let had = c.after_steps.ensures in
    rw (p.1, p.2) (had.0, (_, ending_is c.args.text.now had.0 c.after_steps.result.now had.1 c.in_ok-tail.tail c.in_ok-tail.ensures))

pub returns : goal.returns
returns c =
    let had = c.after_steps.ensures in
    let has = c.in_ok-steps.ensures in
    steps_are c.args.text.now c.in_ok-steps.steps had.0 has.0 c.after_steps.result.now has.1 had.1 c.in_ok-tail.tail c.in_ok-tail.ensures
