use Rattle.std.proofs.lemmas.Result.{err_from_is_err_and}
use Rattle.plan_core.proofs.Lining.{line_shrinks}
use Rattle.plan_core.proofs.Wholes.{no_line, line_at, line_new, line_more, lines_stop, lines_memory, lines_end}
use Rattle.plan_core.proofs.reading.all_lines.Goals as goal

pub lines-init : goal.lines-init
lines-init c = no_line c.args.model.now c.args.cursor.now.rest.now c.args.known.now.keys c.args.said.now.items c.requires.none_known c.requires.none_said

pub returns-in_err-line-clause-lines : goal.returns-in_err-line-clause-lines
returns-in_err-line-clause-lines c =
    let p = err_from_is_err_and c.from_residual.result c.from_residual.ensures.1 in
    rw (p.1, p.2) (lines_stop c.args.model.now c.args.cursor.now.rest.now c.lines.cursor.rest.now _ c.lines.known.keys c.lines.said.items _ c.lines.invariant c.in_err-line.ensures)

pub returns-in-None-clause-lines : goal.returns-in-None-clause-lines
returns-in-None-clause-lines c =
    lines_end c.args.model.now c.args.cursor.now.rest.now c.lines.cursor.rest.now c.one_line.new.cursor.rest.now c.lines.known.keys c.lines.said.items c.lines.invariant
    (line_at c.args.model.now c.lines.known.keys c.lines.cursor.rest.now c.one_line.new.cursor.rest.now c.in_ok-line.line _ c.in-None.is c.in_ok-line.ensures)

pub returns-in-None-clause-kept : goal.returns-in-None-clause-kept
returns-in-None-clause-kept c = c.lines.invariant.kept

pub add-requires-clause-kept : goal.add-requires-clause-kept
add-requires-clause-kept c = c.lines.invariant.kept

pub add-requires-clause-new : goal.add-requires-clause-new
add-requires-clause-new c =
    line_new c.args.model.now c.lines.cursor.rest.now c.one_line.new.cursor.rest.now c.lines.known.keys c.in-Some.statement
    (line_at c.args.model.now c.lines.known.keys c.lines.cursor.rest.now c.one_line.new.cursor.rest.now c.in_ok-line.line _ c.in-Some.is c.in_ok-line.ensures)

pub returns-in_err-add-in-Some-clause-lines : goal.returns-in_err-add-in-Some-clause-lines
returns-in_err-add-in-Some-clause-lines c =
    let p = err_from_is_err_and c.from_residual-in_err-add-in-Some.result c.from_residual-in_err-add-in-Some.ensures.1 in
    rw p.1 (lines_memory c.args.model.now c.args.cursor.now.rest.now c.lines.cursor.rest.now _ c.lines.known.keys c.lines.said.items _ c.lines.invariant p.2)

pub lines-preserved : goal.lines-preserved
lines-preserved c =
    line_more c.args.model.now c.args.cursor.now.rest.now c.lines.cursor.rest.now c.one_line.new.cursor.rest.now c.lines.known.keys c.add.new.known.keys c.lines.said.items c.add.new.said.items c.in-Some.statement c.lines.invariant
    (line_at c.args.model.now c.lines.known.keys c.lines.cursor.rest.now c.one_line.new.cursor.rest.now c.in_ok-line.line _ c.in-Some.is c.in_ok-line.ensures) c.in_ok-add-in-Some.ensures.kept c.in_ok-add-in-Some.ensures.said

pub lines-smaller : goal.lines-smaller
lines-smaller c = line_shrinks c.args.model.now c.lines.known.keys c.lines.cursor.rest.now c.one_line.new.cursor.rest.now c.in_ok-line.line c.in_ok-line.ensures
