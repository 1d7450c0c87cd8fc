use Rattle.std.proofs.Common.{◌-◌, ◌*◌, arith, refl}
use Rattle.std.proofs.lemmas.Result.{err_from_is_err_and}
use Rattle.session_loop.specs.Ends.{Scene}
use Rattle.session_loop.specs.Lines.{most}
use Rattle.session_loop.specs.Pieces.{Stage}
use Rattle.session_loop.proofs.SessionLemmas.{cut_fault, cut_end, feed_fault, feed_end, feed_done, last_fault, last_done, next_count, desk_of, flow_of}
use Rattle.session_loop.proofs.talk.take_turn.Goals as goal

pub returns-in_err-next_line-clause-turns : goal.returns-in_err-next_line-clause-turns
returns-in_err-next_line-clause-turns g c =
    let p = err_from_is_err_and c.from_residual.result c.from_residual.ensures.1 in
    let stage : Stage = record { count = c.args.count; held = c.args.inflow.now } in
    let old : Scene _ = record { responder = c.args.responder.now; left = g.S.Source.left c.args.input.now; written = g.O.Sink.written c.args.out.now } in
    rw (p.1, p.2) (cut_fault g.T.Responder.answers stage old (record { left = g.S.Source.left c.next_line.new.input; held = c.next_line.new.inflow }) c.next_line.new.line
    c.in_err-next_line.field-0.0 c.requires c.in_err-next_line.ensures.cut)

pub returns-in_err-answered-in-Feed-clause-turns : goal.returns-in_err-answered-in-Feed-clause-turns
returns-in_err-answered-in-Feed-clause-turns g c =
    let p = err_from_is_err_and c.from_residual-in_err-answered-in-Feed.result c.from_residual-in_err-answered-in-Feed.ensures.1 in
    let stage : Stage = record { count = c.args.count; held = c.args.inflow.now } in
    let old : Scene _ = record { responder = c.args.responder.now; left = g.S.Source.left c.args.input.now; written = g.O.Sink.written c.args.out.now } in
    let new : Scene _ = record { responder = c.answer_line.new.responder; left = g.S.Source.left c.next_line.new.input; written = g.O.Sink.written c.answer_line.new.out } in
    let cut = rw c.in-Feed.is at c.in_ok-next_line.ensures.cut in
    rw (p.1, p.2) (feed_fault g.T.Responder.answers stage old new c.next_line.new.inflow c.next_line.new.line ((most - c.args.count) * 4096) c.in_err-answered-in-Feed.field-0.0 cut
    c.in_err-answered-in-Feed.ensures.answered)

pub returns-then-answered-clause-turns : goal.returns-then-answered-clause-turns
returns-then-answered-clause-turns g c =
    let stage : Stage = record { count = c.args.count; held = c.args.inflow.now } in
    let old : Scene _ = record { responder = c.args.responder.now; left = g.S.Source.left c.args.input.now; written = g.O.Sink.written c.args.out.now } in
    let between : Scene _ = record { responder = c.answer_line.new.responder; left = g.S.Source.left c.next_line.new.input; written = g.O.Sink.written c.answer_line.new.out } in
    let longest = (most - c.args.count) * 4096 in
    let done = c.in_ok-answered-in-Feed.answered in
    let cut = rw c.in-Feed.is at c.in_ok-next_line.ensures.cut in
    let counts = next_count g.T.Responder.answers stage (desk_of old) (desk_of between) (flow_of stage old) _ c.next_line.new.line longest done cut c.in_ok-answered-in-Feed.ensures.answered in (
      omega (arith, counts.0, counts.1),
      counts.0,
      λ last end talks. feed_done g.T.Responder.answers stage old between last c.next_line.new.inflow c.next_line.new.line longest done end cut
          c.in_ok-answered-in-Feed.ensures.answered c.if-answered.true talks,
    )

pub returns-else-answered-clause-turns : goal.returns-else-answered-clause-turns
returns-else-answered-clause-turns g c =
    let stage : Stage = record { count = c.args.count; held = c.args.inflow.now } in
    let old : Scene _ = record { responder = c.args.responder.now; left = g.S.Source.left c.args.input.now; written = g.O.Sink.written c.args.out.now } in
    let new : Scene _ = record { responder = c.answer_line.new.responder; left = g.S.Source.left c.next_line.new.input; written = g.O.Sink.written c.answer_line.new.out } in
    let cut = rw c.in-Feed.is at c.in_ok-next_line.ensures.cut in
    feed_end g.T.Responder.answers stage old new c.next_line.new.inflow c.next_line.new.line ((most - c.args.count) * 4096) c.in_ok-answered-in-Feed.answered cut
    c.in_ok-answered-in-Feed.ensures.answered c.if-answered.false

pub returns-in_err-answered-in-Last-clause-turns : goal.returns-in_err-answered-in-Last-clause-turns
returns-in_err-answered-in-Last-clause-turns g c =
    let p = err_from_is_err_and c.from_residual-in_err-answered-in-Last.result c.from_residual-in_err-answered-in-Last.ensures.1 in
    let stage : Stage = record { count = c.args.count; held = c.args.inflow.now } in
    let old : Scene _ = record { responder = c.args.responder.now; left = g.S.Source.left c.args.input.now; written = g.O.Sink.written c.args.out.now } in
    let new : Scene _ = record { responder = c.answer_line-in-Last.new.responder; left = g.S.Source.left c.next_line.new.input; written = g.O.Sink.written c.answer_line-in-Last.new.out } in
    let cut = rw c.in-Last.is at c.in_ok-next_line.ensures.cut in
    rw (p.1, p.2) (last_fault g.T.Responder.answers stage old new c.next_line.new.inflow c.next_line.new.line ((most - c.args.count) * 4096) c.in_err-answered-in-Last.field-0.0 cut
    c.in_err-answered-in-Last.ensures.answered)

pub returns-in_ok-answered-in-Last-clause-turns : goal.returns-in_ok-answered-in-Last-clause-turns
returns-in_ok-answered-in-Last-clause-turns g c =
    let stage : Stage = record { count = c.args.count; held = c.args.inflow.now } in
    let old : Scene _ = record { responder = c.args.responder.now; left = g.S.Source.left c.args.input.now; written = g.O.Sink.written c.args.out.now } in
    let new : Scene _ = record { responder = c.answer_line-in-Last.new.responder; left = g.S.Source.left c.next_line.new.input; written = g.O.Sink.written c.answer_line-in-Last.new.out } in
    let done = c.in_ok-answered-in-Last.answered in
    let cut = rw c.in-Last.is at c.in_ok-next_line.ensures.cut in
    rw c.end_behind.ensures (last_done g.T.Responder.answers stage old new c.next_line.new.inflow c.next_line.new.line ((most - c.args.count) * 4096) done cut
    c.in_ok-answered-in-Last.ensures.answered done.goes_on refl)

pub returns-in-End-clause-turns : goal.returns-in-End-clause-turns
returns-in-End-clause-turns g c =
    let stage : Stage = record { count = c.args.count; held = c.args.inflow.now } in
    let old : Scene _ = record { responder = c.args.responder.now; left = g.S.Source.left c.args.input.now; written = g.O.Sink.written c.args.out.now } in
    let cut = rw c.in-End.is at c.in_ok-next_line.ensures.cut in
    cut_end g.T.Responder.answers stage old (record { left = g.S.Source.left c.next_line.new.input; held = c.next_line.new.inflow }) c.next_line.new.line
    ((most - c.args.count) * 4096) cut
