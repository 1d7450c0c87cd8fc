use Rattle.std.proofs.Common.{◌-◌, length, slice_get, ap, sym, ◌∙◌}
use Rattle.constraint_net.proofs.Watching.{shortened_by}
use Rattle.constraint_net.proofs.watchers.trim.Goals as goal

pub loop-last-preserved : goal.loop-last-preserved
loop-last-preserved c =
    let list = c.loop-last.list.items in
    shortened_by c.args.count c.in-Some.last c.args.list.now.items list c.pop-last.new.self.items c.pop-last.result c.pop-last.ensures.items
    (sym c.in-Some.is ∙ c.copied.ensures ∙ c.last.ensures.value ∙ ap (λ l. slice_get l (length l - 1)) c.as_slice.ensures) c.if-last-count.false c.loop-last.invariant
