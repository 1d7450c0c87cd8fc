use Rattle.std.proofs.Common.{take}
use Rattle.session_replies.specs.Lines.{IsTokenLine}
use Rattle.session_replies.specs.Written.{WritesLines}
use Rattle.session_replies.proofs.tokens.put_tokens.Given as goal

abbrev pub invariant-loop-place : goal.invariant-loop-place
invariant-loop-place g l =
    WritesLines (IsTokenLine l.initial.model (g.V.View.state l.initial.view) (g.V.View.decisions l.initial.view)) (take l.place (g.V.View.state l.initial.view).tokens) l.initial.out.items l.out.items
