-- What is printed, and then the statements that follow, is what is wanted.
use Rattle.std.proofs.Common.{◌≡◌, ◌++◌, drop}
use Rattle.nddl_ast.specs.Block.{statements_of}
use Rattle.nddl_print.specs.Words.{spaced}
use Rattle.nddl_print.specs.Canonical.{statements_words}
use Rattle.nddl_print.proofs.statements.+printing.Given as goal

abbrev pub invariant-print_stmts-loop-stmt : goal.invariant-print_stmts-loop-stmt
invariant-print_stmts-loop-stmt l =
    l.lines ++ spaced (statements_words (statements_of (drop l.stmt-index l.stmts))) ≡ l.fn.lines ++ spaced (statements_words (statements_of l.stmts))
