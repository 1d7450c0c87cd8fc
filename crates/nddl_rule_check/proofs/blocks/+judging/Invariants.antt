use Rattle.std.proofs.Common.{◌≡◌, drop}
use Rattle.nddl_ast.specs.Block.{statements_of}
use Rattle.nddl_symbols.specs.Finding.{earliest_fault}
use Rattle.nddl_hierarchy.specs.Facts.{facts_of}
use Rattle.nddl_rule_check.specs.Blocks.{block_faults}
use Rattle.nddl_rule_check.specs.Seeing.{SeesMore}
use Rattle.nddl_rule_check.proofs.blocks.+judging.Given as goal

-- the earliest so far and of the statements that are left is the earliest of all, and what was seen still is
abbrev pub invariant-note_stmts-loop-stmt : goal.invariant-note_stmts-loop-stmt
invariant-note_stmts-loop-stmt l =
    (earliest_fault l.first (block_faults (facts_of l.spot.basis) l.spot.decl l.visible l.own (statements_of (drop l.stmt-index l.stmts)))
    ≡ earliest_fault l.fn.first (block_faults (facts_of l.spot.basis) l.spot.decl l.fn.visible l.fn.own (statements_of l.stmts)))
    × SeesMore l.fn.visible l.visible
