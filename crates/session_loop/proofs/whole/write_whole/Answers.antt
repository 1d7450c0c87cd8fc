use Rattle.std.proofs.Common.{◌∙◌}
use Rattle.std.proofs.lemmas.Result.{err_from_is_err_and}
use Rattle.session_loop.proofs.Streams.{Appends-more, Appends-front, within_more}
use Rattle.session_loop.proofs.whole.write_whole.Goals as goal

pub returns-in_err-taken-clause-bytes : goal.returns-in_err-taken-clause-bytes
returns-in_err-taken-clause-bytes g c =
    let p = err_from_is_err_and c.from_residual.result c.from_residual.ensures.1 in
    rw p.1 (Appends-front _ _ _ c.args.piece.now _ c.loop-taken.invariant.appended c.in_err-taken.ensures.bytes)

pub loop-taken-preserved : goal.loop-taken-preserved
loop-taken-preserved g c = record {
  within = within_more c.args.piece.now _ _ c.loop-taken.invariant.within c.in_ok-taken.ensures.bound;
  appended = Appends-more _ _ _ c.args.piece.now _ _ c.loop-taken.invariant.appended c.in_ok-taken.ensures.bytes;
  counted = c.in_ok-taken.ensures.counted ∙ c.loop-taken.invariant.counted;
}
