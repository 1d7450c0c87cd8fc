-- A block is larger than those in it.
use Rattle.std.specs.Prelude.{◌≤◌, Some, None, List, [], ◌∷◌}
use Rattle.std.proofs.Common.{arith}
use denote.Param.Weighed.{most}
use Rattle.nddl_ast.specs.declared.statement.Stmt.{Stmt}
use Rattle.nddl_ast.specs.declared.statement.Stmt.TheVariants.{Variable, Call, Ask, If, Foreach}
use Rattle.nddl_ast.specs.declared.statement.StmtBlock.TheDeep.{deep-Stmt}
use Rattle.nddl_ast.specs.Tree.{Statements, Nothing, Declares, Calls, Asks, Tests, Chooses, Repeats, count}
use Rattle.nddl_ast.specs.Block.{statements_of}

some : (statements : Statements) → 1 ≤ count statements
some Nothing = omega arith
some (Declares v more) = omega arith
some (Calls c more) = omega arith
some (Asks a more) = omega arith
some (Tests at condition then_at then more) = omega arith
some (Chooses at condition then_at then else_at else more) = omega arith
some (Repeats at name class body_at body more) = omega arith

pub most_deep : (stmts : List Stmt) → most deep-Stmt stmts ≤ count (statements_of stmts)
most_deep [] = omega arith
most_deep (Variable v ∷ more) = omega (arith, most_deep more, some (statements_of more))
most_deep (Call c ∷ more) = omega (arith, most_deep more, some (statements_of more))
most_deep (Ask a ∷ more) = omega (arith, most_deep more, some (statements_of more))
most_deep (If at condition then None ∷ more) = omega (arith, most_deep more, some (statements_of more))
most_deep (If at condition then (Some otherwise) ∷ more) = omega (arith, most_deep more, some (statements_of more))
most_deep (Foreach at name class body ∷ more) = omega (arith, most_deep more, some (statements_of more))
