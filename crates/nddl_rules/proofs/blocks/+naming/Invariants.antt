use Rattle.std.proofs.Common.{drop}
use Rattle.nddl_ast.specs.Block.{statements_of}
use Rattle.nddl_rules.specs.Reads.{sources_of}
use Rattle.nddl_rules.specs.Blocks.{ReadsTo}
use Rattle.nddl_rules.proofs.blocks.+naming.Given as goal

-- the statements up to this one have been dealt with
abbrev pub invariant-push_stmts_names-loop-stmt : goal.invariant-push_stmts_names-loop-stmt
invariant-push_stmts_names-loop-stmt l =
    ReadsTo (sources_of l.sources) l.fn.sight l.sight l.fn.tally l.tally l.fn.names l.names (statements_of l.stmts)
    (statements_of (drop l.stmt-index l.stmts))
