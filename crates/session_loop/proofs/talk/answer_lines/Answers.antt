use Rattle.std.proofs.Common.{◌∙◌, Ok, Err, arith}
use Rattle.std.proofs.lemmas.Result.{err_from_is_err_and}
use Rattle.session_loop.proofs.talk.answer_lines.Goals as goal

pub returns-in_err-turn-clause-talks : goal.returns-in_err-turn-clause-talks
returns-in_err-turn-clause-talks g c =
    let p = err_from_is_err_and c.from_residual.result c.from_residual.ensures.1 in
    rw (p.1, p.2) (c.lines.invariant.goes_on _ (Err c.in_err-turn.field-0.0) c.in_err-turn.ensures.turns)

pub returns-in-Stops-clause-talks : goal.returns-in-Stops-clause-talks
returns-in-Stops-clause-talks g c = c.lines.invariant.goes_on _ (Ok c.in-Stops.end) (rw c.in-Stops.is at c.in_ok-turn.ensures.turns)

pub lines-preserved : goal.lines-preserved
lines-preserved g c =
    let said = rw c.in-Goes.is at c.in_ok-turn.ensures.turns in
    record {
      within = said.1;
      goes_on = λ new end talks. c.lines.invariant.goes_on new end (said.2 new end talks);
      reads = c.in_ok-turn.ensures.reads ∙ c.lines.invariant.reads;
      writes = c.in_ok-turn.ensures.writes ∙ c.lines.invariant.writes;
    }

pub lines-smaller : goal.lines-smaller
lines-smaller g c =
    let said = rw c.in-Goes.is at c.in_ok-turn.ensures.turns in
    omega (arith, said.0, said.1)
