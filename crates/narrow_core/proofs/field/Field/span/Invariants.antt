use Rattle.std.proofs.Common.{take}
use Rattle.narrow_core.specs.Sides.{Spans}
use Rattle.narrow_core.proofs.field.Field.span.Given as goal

abbrev pub invariant-loop-entry : goal.invariant-loop-entry
invariant-loop-entry l = Spans (take l.entry-index l.fn.self.entries) l.fn.side l.fn.own l.fn.other l.span
