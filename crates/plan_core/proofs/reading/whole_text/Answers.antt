use Rattle.std.proofs.Common.{inl}
use Rattle.std.proofs.lemmas.Result.{err_from_is_err_and}
use Rattle.plan_core.specs.Gathering.{said_of}
use Rattle.plan_core.proofs.Wholes.{whole_found, whole_stops}
use Rattle.plan_core.proofs.reading.whole_text.Goals as goal

pub returns-in_err-opening-clause-text : goal.returns-in_err-opening-clause-text
returns-in_err-opening-clause-text c =
    let p = err_from_is_err_and c.from_residual.result c.from_residual.ensures.1 in
    rw (p.1, p.2) (inl c.in_err-opening.ensures)

pub returns-in_err-all_lines-clause-text : goal.returns-in_err-all_lines-clause-text
returns-in_err-all_lines-clause-text c =
    let p = err_from_is_err_and c.from_residual-in_err-all_lines.result c.from_residual-in_err-all_lines.ensures.1 in
    rw (p.1, p.2) (whole_stops c.args.model.now c.args.cursor.now.rest.now c.opening.new.cursor.rest.now _ tt _ c.in_ok-opening.ensures c.in_err-all_lines.ensures.lines)

pub returns-clause-text : goal.returns-clause-text
returns-clause-text c =
    whole_found c.args.model.now c.args.cursor.now.rest.now c.opening.new.cursor.rest.now c.all_lines.new.cursor.rest.now (said_of c.all_lines.new.said.items) tt c.text_ending.result
    c.in_ok-opening.ensures c.in_ok-all_lines.ensures.lines c.text_ending.ensures
