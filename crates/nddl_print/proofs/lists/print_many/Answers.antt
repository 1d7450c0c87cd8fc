use Rattle.nddl_print.specs.Words.{spaced}
use Rattle.nddl_print.specs.Canonical.{many_words}
use Rattle.nddl_print.proofs.Spaced.{spaced_then, spaced_none}
use Rattle.nddl_print.proofs.Printed.{item_printed, all_printed}
use Rattle.nddl_print.proofs.lists.print_many.Goals as goal

pub loop-item-preserved : goal.loop-item-preserved
loop-item-preserved g c =
    item_printed (λ items. spaced (many_words g.T.Print.words items)) c.args.items.now c.loop-item.item-index c.item-item.result _ _ _ _ c.loop-item-test.true c.item-item.is
    (spaced_then (g.T.Print.words c.item-item.result) _) c.in_ok-print.ensures c.loop-item.invariant

pub returns : goal.returns
returns g c = all_printed (λ items. spaced (many_words g.T.Print.words items)) c.args.items.now c.loop-item.item-index _ _ c.loop-item-test.false spaced_none c.loop-item.invariant
