use Rattle.std.proofs.Common.{◌≡◌, ◌≤◌, ◌-◌}
use Rattle.std.specs.declared.result.Result.{Result}
use Rattle.session_loop.specs.declared.fault.SessionFault.{SessionFault}
use Rattle.session_loop.specs.declared.talk.SessionEnd.{SessionEnd}
use Rattle.session_loop.specs.Ends.{Scene}
use Rattle.session_loop.specs.Lines.{most}
use Rattle.session_loop.specs.Pieces.{Talks}
use Rattle.session_loop.proofs.talk.answer_lines.Given as goal

-- what is said of the session from here on is said of all of it
abbrev pub invariant-lines : goal.invariant-lines
invariant-lines g l = record {
  within : l.count ≤ most;
  goes_on : (new : Scene _) (end : Result SessionEnd SessionFault)
      → Talks g.T.Responder.answers (record { count = l.count; held = l.inflow })
      (record { responder = l.responder; left = g.S.Source.left l.input; written = g.O.Sink.written l.out }) new end
      → Talks g.T.Responder.answers (record { count = 0; held = l.initial.inflow })
      (record { responder = l.initial.responder; left = g.S.Source.left l.initial.input; written = g.O.Sink.written l.initial.out }) new end;
  reads : g.S.Source.faults l.input ≡ g.S.Source.faults l.initial.input;
  writes : g.O.Sink.faults l.out ≡ g.O.Sink.faults l.initial.out;
}

abbrev pub decreases-lines : goal.decreases-lines
decreases-lines g l = most - l.count
