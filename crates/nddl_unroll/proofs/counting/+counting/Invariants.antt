use Rattle.std.proofs.Common.{◌≡◌, drop}
use Rattle.nddl_ast.specs.Block.{statements_of}
use Rattle.nddl_unroll.specs.Counting.{counted_with}
use Rattle.nddl_unroll.proofs.counting.+counting.Given as goal

-- with the statements that are left there is as much as with all
abbrev pub invariant-count_stmts-loop-stmt : goal.invariant-count_stmts-loop-stmt
invariant-count_stmts-loop-stmt l =
    counted_with l.lexicon l.names.names.now (statements_of (drop l.stmt-index l.stmts)) l.sum
    ≡ counted_with l.lexicon l.names.names.now (statements_of l.stmts) l.fn.total
