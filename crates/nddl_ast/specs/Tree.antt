-- Blocks as plain data.
use Rattle.std.specs.Prelude.{ℕ, ◌+◌}
use Rattle.nddl_ast.specs.declared.name.Name.{Name}
use Rattle.nddl_ast.specs.declared.statement.Variable.{Variable}
use Rattle.nddl_ast.specs.declared.statement.Call.{Call}
use Rattle.nddl_ast.specs.declared.statement.Ask.{Ask}
use Rattle.nddl_ast.specs.declared.statement.Condition.{Condition}

-- the statements of a block in order: the first, with the places and the statements of the blocks in it, and then
-- those that follow
pub data Statements : Type 0 where
  -- there is none
  Nothing : Statements
  Declares : Variable → Statements → Statements
  Calls : Call → Statements → Statements
  Asks : Ask → Statements → Statements
  -- an `if` at this place, its condition, and its block
  Tests : ℕ → Condition → ℕ → Statements → Statements → Statements
  -- the same with the block behind `else`
  Chooses : ℕ → Condition → ℕ → Statements → ℕ → Statements → Statements → Statements
  -- a `foreach` at this place, its variable, its class, and its block
  Repeats : ℕ → Name → Name → ℕ → Statements → Statements → Statements

-- a block: the place at which it begins, and its statements
pub record Braces : Type 0 where
  pub at : ℕ
  pub statements : Statements

-- how many statements there are, those of the blocks in them too, and one more
abbrev pub count : Statements → ℕ
count Nothing = 1
count (Declares v more) = count more + 1
count (Calls c more) = count more + 1
count (Asks a more) = count more + 1
count (Tests at condition then_at then more) = count then + count more + 1
count (Chooses at condition then_at then else_at else more) = count then + (count else + count more) + 1
count (Repeats at name class body_at body more) = count body + count more + 1
