use Rattle.std.proofs.Common.{◌∙◌}
use Rattle.std.proofs.lemmas.Result.{err_from_is_err_and}
use Rattle.session_loop.proofs.Written.{wrote_line, wrote_front}
use Rattle.session_loop.proofs.whole.write_lines.Goals as goal

pub loop-rest-preserved : goal.loop-rest-preserved
loop-rest-preserved g c = record {
  written = wrote_line _ (g.O.Sink.written c.loop-rest.out) _ c.loop-rest.rest.now c.split_at.result.0.now c.split_at.result.1.now c.args.text.now
      c.loop-rest.invariant.written c.split_at.ensures.by_index.0 c.in_ok-write_whole.ensures.bytes;
  counted = c.in_ok-write_whole.ensures.counted ∙ c.loop-rest.invariant.counted;
}

pub returns-in_err-write_whole-clause-bytes : goal.returns-in_err-write_whole-clause-bytes
returns-in_err-write_whole-clause-bytes g c =
    let p = err_from_is_err_and c.from_residual.result c.from_residual.ensures.1 in
    let cut = c.in_err-write_whole.ensures.bytes in
    rw p.1 (wrote_front _ (g.O.Sink.written c.loop-rest.out) _ c.loop-rest.rest.now c.split_at.result.0.now c.split_at.result.1.now c.args.text.now
    cut.0 cut.1 c.loop-rest.invariant.written c.split_at.ensures.by_index.0 cut.2 cut.3)
