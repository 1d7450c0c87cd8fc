use Rattle.std.proofs.Common.{refl}
use Rattle.nddl_print.specs.Canonical.{spelling_of, decl_words}
use Rattle.nddl_print.proofs.Printed.{item_printed}
use Rattle.nddl_print.proofs.Some.{decl_some}
use Rattle.nddl_print.proofs.printing.print.Goals as goal

pub loop-decl-preserved : goal.loop-decl-preserved
loop-decl-preserved c =
    item_printed spelling_of c.args.decls.now c.loop-decl.decl-index c.decl-item.result _ c.loop-decl.lines _ _ c.loop-decl-test.true c.decl-item.is refl
    (c.in_ok-end_line.ensures c.loop-decl.lines (decl_words c.decl-item.result) (decl_some c.decl-item.result) c.in_ok-print.ensures) c.loop-decl.invariant
