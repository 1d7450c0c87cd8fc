-- A block of the code as plain data.
use Rattle.std.specs.Prelude.{ℕ, Option, Some, None, List, [], ◌∷◌}
use Rattle.nddl_ast.specs.declared.statement.Condition.{Condition}
use Rattle.nddl_ast.specs.declared.statement.Stmt.{Stmt}
use Rattle.nddl_ast.specs.declared.statement.Stmt.TheVariants.{Variable, Call, Ask, If, Foreach}
use Rattle.nddl_ast.specs.Tree.{Statements, Nothing, Declares, Calls, Asks, Tests, Chooses, Repeats, Braces}

-- an `if` without `else`, or with it, before other statements
abbrev pub with_else : ℕ → Condition → Braces → Option Braces → Statements → Statements
with_else at condition then None more = Tests at condition then.at then.statements more
with_else at condition then (Some otherwise) more =
    Chooses at condition then.at then.statements otherwise.at otherwise.statements more

-- any statement before others
abbrev pub with_statement : Stmt → Statements → Statements
with_statement (Variable v) more = Declares v more
with_statement (Call c) more = Calls c more
with_statement (Ask a) more = Asks a more
with_statement (If at condition then otherwise) more = with_else at condition then otherwise more
with_statement (Foreach at name class body) more = Repeats at name class body.at body.statements more

-- statements as the code keeps them, as plain data
abbrev pub statements_of : List Stmt → Statements
statements_of [] = Nothing
statements_of (stmt ∷ more) = with_statement stmt (statements_of more)
