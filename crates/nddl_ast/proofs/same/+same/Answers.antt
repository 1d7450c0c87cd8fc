use Rattle.std.proofs.Common.{ap, ◌∙◌}
use Rattle.nddl_ast.specs.Block.{statements_of}
use Rattle.nddl_ast.specs.SameStatement.{SameStmt}
use Rattle.nddl_ast.proofs.Lists.{same_len}
use Rattle.nddl_ast.proofs.Blocks.{block_iff}
use Rattle.nddl_ast.proofs.same.+same.Goals as goal

pub same_block-returns : goal.same_block-returns
same_block-returns t c =
    block_iff c.args.one.now c.args.other.now _ _ c.same_stmts.result
    (ap statements_of c.as_slice.ensures.value ∙ ap (λ block. block.statements) c.one.view_is)
    (ap statements_of c.as_slice-2.ensures.value ∙ ap (λ block. block.statements) c.other.view_is) c.same_stmts.ensures

pub same_stmts-returns-then-one-other : goal.same_stmts-returns-then-one-other
same_stmts-returns-then-one-other t c = (λ no. absurd (cc), λ same. absurd (c.if-one-other.true (same_len SameStmt _ _ same)))
