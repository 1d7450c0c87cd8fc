use Rattle.std.proofs.Common.{◌≡◌, ◌-◌, drop}
use Rattle.nddl_lexer.specs.Scan.{close_len}
use Rattle.nddl_lexer.proofs.Closing.{later}
use Rattle.nddl_lexer.proofs.fronts.close_len.Given as goal

abbrev pub invariant-loop-i : goal.invariant-loop-i
invariant-loop-i l = close_len l.text ≡ later (l.i - 1) (close_len (drop (l.i - 1) l.text))
