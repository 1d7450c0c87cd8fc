use Rattle.std.proofs.Common.{◌≡◌, ◌++◌, ◌∷◌, [], drop}
use Rattle.nddl_ast.specs.Block.{statements_of}
use Rattle.nddl_terms.specs.Lexicon.{class_objects}
use Rattle.nddl_terms.specs.Readings.{readings_of}
use Rattle.nddl_unroll.specs.Blocks.{all_turns, turn_of, turn_stands, unrolled}
use Rattle.nddl_unroll.proofs.blocks.+unrolling.Given as goal

-- behind the statements that are left the rule has what it has behind all
abbrev pub invariant-unroll_stmts-loop-stmt : goal.invariant-unroll_stmts-loop-stmt
invariant-unroll_stmts-loop-stmt l =
    unrolled (readings_of l.reading) l.turns (statements_of (drop l.stmt-index l.stmts)) l.growth
    ≡ unrolled (readings_of l.reading) l.turns (statements_of l.stmts) l.fn.growth

-- behind the turns that are left the rule has what it has behind all
abbrev pub invariant-unroll_objects-loop-object : goal.invariant-unroll_objects-loop-object
invariant-unroll_objects-loop-object l =
    all_turns (λ object inner. unrolled (readings_of l.reading) (l.turns ++ turn_of l.variable object ∷ []) l.body.statements inner)
    (turn_stands l.class (drop l.object-index l.object-items)) l.growth
    ≡ all_turns (λ object inner. unrolled (readings_of l.reading) (l.turns ++ turn_of l.variable object ∷ []) l.body.statements inner)
    (turn_stands l.class (class_objects l.reading.lexicon.now l.class)) l.fn.growth
