use Rattle.std.proofs.Common.{◌≡◌, drop}
use Rattle.nddl_ast.specs.Block.{statements_of}
use Rattle.nddl_unroll.specs.Places.{text_places}
use Rattle.nddl_unroll.proofs.places.+placing.Given as goal

-- with the places of the statements that are left they are all
abbrev pub invariant-note_stmts-loop-stmt : goal.invariant-note_stmts-loop-stmt
invariant-note_stmts-loop-stmt l =
    text_places (statements_of (drop l.stmt-index l.stmts)) l.places ≡ text_places (statements_of l.stmts) l.fn.places
