use Rattle.std.proofs.Common.{arith}
use Rattle.session_loop.proofs.Streams.{IsOneLine-more}
use Rattle.session_loop.proofs.cutting.find_feed.Goals as goal

pub loop-i-preserved : goal.loop-i-preserved
loop-i-preserved c = IsOneLine-more _ _ (omega arith) c.loop-i.invariant c.if-byte-eq10.false
