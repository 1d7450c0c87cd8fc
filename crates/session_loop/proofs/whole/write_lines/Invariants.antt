use Rattle.std.proofs.Common.{◌≡◌, length}
use Rattle.session_loop.proofs.Written.{Wrote}
use Rattle.session_loop.proofs.whole.write_lines.Given as goal

abbrev pub invariant-loop-rest : goal.invariant-loop-rest
invariant-loop-rest g l = record {
  written : Wrote (g.O.Sink.written l.initial.out) (g.O.Sink.written l.out) l.rest l.text;
  counted : g.O.Sink.faults l.out ≡ g.O.Sink.faults l.initial.out;
}

abbrev pub decreases-loop-rest : goal.decreases-loop-rest
decreases-loop-rest g l = length l.rest
