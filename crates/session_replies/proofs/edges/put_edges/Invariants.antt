use Rattle.std.proofs.Common.{take}
use Rattle.session_replies.specs.Lines.{IsEdgeLine}
use Rattle.session_replies.specs.Written.{WritesLines}
use Rattle.session_replies.proofs.edges.put_edges.Given as goal

abbrev pub invariant-loop-edge : goal.invariant-loop-edge
invariant-loop-edge l = WritesLines (IsEdgeLine l.initial.model) (take l.edge-index l.initial.edges) l.initial.out.items l.out.items
