use Rattle.std.proofs.Common.{take}
use Rattle.session_loop.specs.Pieces.{IsOneLine}
use Rattle.session_loop.proofs.cutting.find_feed.Given as goal

abbrev pub invariant-loop-i : goal.invariant-loop-i
invariant-loop-i l = IsOneLine (take l.i l.bytes)
