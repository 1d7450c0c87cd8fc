use Rattle.std.proofs.Common.{take, ap, ◌∙◌, subst}
use Rattle.narrow_core.specs.Sides.{Spans}
use Rattle.narrow_core.proofs.Spanning.{taken_more}
use Rattle.narrow_core.proofs.field.Field.span.Goals as goal

pub loop-entry-preserved : goal.loop-entry-preserved
loop-entry-preserved c =
    let entries = c.args.self.now.entries in
    let items = c.as_slice-entry-items in
    subst (λ list. Spans list c.args.side c.args.own.now c.args.other.now c.spread-span.result) (taken_more items.result.now entries c.loop-entry.entry-index _ (items.ensures.value ∙ ap (λ table. table.entries) c.self.view_is) c.loop-entry-test.true)
    (c.spread-span.ensures (take c.loop-entry.entry-index entries) c.loop-entry.invariant)
