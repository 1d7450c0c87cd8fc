use Rattle.std.proofs.Common.{◌≡◌, ◌≤◌, ◌+◌, ◌-◌}
use Rattle.session_loop.specs.Pieces.{ReadsPart}
use Rattle.session_loop.proofs.cutting.next_line.Given as goal

abbrev pub invariant-loop-line : goal.invariant-loop-line
invariant-loop-line g l = record {
  reads : ReadsPart (record { left = g.S.Source.left l.initial.input; held = l.initial.inflow })
      (record { left = g.S.Source.left l.input; held = l.inflow }) l.line;
  short : l.line.length ≤ l.longest;
  counted : g.S.Source.faults l.input ≡ g.S.Source.faults l.initial.input;
}

abbrev pub decreases-loop-line : goal.decreases-loop-line
decreases-loop-line g l = l.longest + 1 - l.line.length
