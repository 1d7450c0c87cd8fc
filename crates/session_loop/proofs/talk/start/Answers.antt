use Rattle.std.proofs.Common.{[], refl, inl}
use Rattle.std.proofs.lemmas.Result.{err_from_is_err_and}
use Rattle.std.proofs.KnownBytes.{Consumes-nil, Appends-nil}
use Rattle.session_loop.specs.Lines.{lines_of}
use Rattle.session_loop.specs.Pieces.{known_rest}
use Rattle.session_loop.proofs.talk.start.Goals as goal

pub returns-in_err-inflow-clause-talks : goal.returns-in_err-inflow-clause-talks
returns-in_err-inflow-clause-talks g c =
    let p = err_from_is_err_and c.from_residual.result c.from_residual.ensures.1 in
    let left = g.S.Source.left c.args.input.now in
    rw (p.1, p.2) (
      [],
      [],
      record { responder = c.args.responder.now; count = 0 },
      Consumes-nil left,
      Appends-nil (g.O.Sink.written c.args.out.now),
      refl,
      inl (record { answered = []; later = lines_of (known_rest left); split = refl; session = refl }),
    )

pub returns-clause-talks : goal.returns-clause-talks
returns-clause-talks g c = rw c.in_ok-inflow.ensures at c.answer_lines.ensures.talks
