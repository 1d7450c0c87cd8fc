use Rattle.nddl_ast.specs.Block.{statements_of}
use Rattle.nddl_print.specs.Words.{spaced}
use Rattle.nddl_print.specs.Canonical.{statements_words}
use Rattle.nddl_print.proofs.Spaced.{spaced_none}
use Rattle.nddl_print.proofs.Printed.{item_printed, all_printed, first_statement}
use Rattle.nddl_print.proofs.statements.+printing.Goals as goal

pub print_stmts-loop-stmt-preserved : goal.print_stmts-loop-stmt-preserved
print_stmts-loop-stmt-preserved t c =
    item_printed (λ stmts. spaced (statements_words (statements_of stmts))) c.args.stmts.now c.loop-stmt.stmt-index c.stmt-item.result _ _ _ _ c.loop-stmt-test.true c.stmt-item.is
    (first_statement c.stmt-item.result _) c.in_ok-print_stmt.ensures c.loop-stmt.invariant

pub print_stmts-returns : goal.print_stmts-returns
print_stmts-returns t c =
    all_printed (λ stmts. spaced (statements_words (statements_of stmts))) c.args.stmts.now c.loop-stmt.stmt-index _ _ c.loop-stmt-test.false spaced_none c.loop-stmt.invariant
