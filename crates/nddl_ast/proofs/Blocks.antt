-- Statements are the same one by one where they are the same as plain data.
use Rattle.std.proofs.Common.{◌≡◌, Bool, true, sym, subst, Some, None, List, [], ◌∷◌}
use Rattle.nddl_ast.specs.declared.statement.Stmt.{Stmt}
use Rattle.nddl_ast.specs.declared.statement.Stmt.TheVariants.{Variable, Call, Ask, If, Foreach}
use Rattle.nddl_ast.specs.Tree.{Statements, Nothing, Braces}
use Rattle.nddl_ast.specs.Block.{with_statement, statements_of}
use Rattle.nddl_ast.specs.Same.{AllSame, SameStatements, SameBlock}
use Rattle.nddl_ast.specs.SameStatement.{SameStmt}

first_to : (one other : Stmt) (more others : Statements) → SameStmt one other → SameStatements more others → SameStatements (with_statement one more) (with_statement other others)
first_to (Variable one) (Variable other) more others first rest = (first, rest)
first_to (Call one) (Call other) more others first rest = (first, rest)
first_to (Ask one) (Ask other) more others first rest = (first, rest)
first_to (If at condition then None) (If at' condition' then' None) more others first rest = ((first.0, first.1), rest)
first_to (If at condition then (Some otherwise)) (If at' condition' then' (Some otherwise')) more others first rest = (first, rest)
first_to (If at condition then None) (If at' condition' then' (Some otherwise')) more others first rest = absurd first.2
first_to (If at condition then (Some otherwise)) (If at' condition' then' None) more others first rest = absurd first.2
first_to (Foreach at name class body) (Foreach at' name' class' body') more others first rest = (first, rest)
first_to one other more others first rest = absurd first

first_from : (one other : Stmt) (more others : Statements) → SameStatements (with_statement one more) (with_statement other others) → SameStmt one other × SameStatements more others
first_from (Variable one) (Variable other) more others same = same
first_from (Call one) (Call other) more others same = same
first_from (Ask one) (Ask other) more others same = same
first_from (If at condition then None) (If at' condition' then' None) more others same = ((same.0.0, same.0.1, tt), same.1)
first_from (If at condition then (Some otherwise)) (If at' condition' then' (Some otherwise')) more others same = same
first_from (Foreach at name class body) (Foreach at' name' class' body') more others same = same
first_from one (If at condition then None) more others same = absurd same
first_from one (If at condition then (Some otherwise)) more others same = absurd same
first_from (If at condition then None) other more others same = absurd same
first_from (If at condition then (Some otherwise)) other more others same = absurd same
first_from one other more others same = absurd same

-- no statement stands for none
none_first : (stmt : Stmt) (more : Statements) → SameStatements Nothing (with_statement stmt more) → ⊥
none_first (Variable v) more same = same
none_first (Call c) more same = same
none_first (Ask a) more same = same
none_first (If at condition then None) more same = same
none_first (If at condition then (Some otherwise)) more same = same
none_first (Foreach at name class body) more same = same

first_none : (stmt : Stmt) (more : Statements) → SameStatements (with_statement stmt more) Nothing → ⊥
first_none (Variable v) more same = same
first_none (Call c) more same = same
first_none (Ask a) more same = same
first_none (If at condition then None) more same = same
first_none (If at condition then (Some otherwise)) more same = same
first_none (Foreach at name class body) more same = same

pub stmts_to : (xs ys : List Stmt) → AllSame SameStmt xs ys → SameStatements (statements_of xs) (statements_of ys)
stmts_to [] [] same = tt
stmts_to [] (y ∷ ys) same = absurd same
stmts_to (x ∷ xs) [] same = absurd same
stmts_to (x ∷ xs) (y ∷ ys) same = first_to x y (statements_of xs) (statements_of ys) same.0 (stmts_to xs ys same.1)

pub stmts_from : (xs ys : List Stmt) → SameStatements (statements_of xs) (statements_of ys) → AllSame SameStmt xs ys
stmts_from [] [] same = tt
stmts_from [] (y ∷ ys) same = absurd (none_first y (statements_of ys) same)
stmts_from (x ∷ xs) [] same = absurd (first_none x (statements_of xs) same)
stmts_from (x ∷ xs) (y ∷ ys) same =
    let parts = first_from x y (statements_of xs) (statements_of ys) same in
    (parts.0, stmts_from xs ys parts.1)

-- the same of a block, as the code opens it
pub block_iff : (one other : Braces) (xs ys : List Stmt) (answer : Bool) → statements_of xs ≡ one.statements → statements_of ys ≡ other.statements
    → ((answer ≡ true) → AllSame SameStmt xs ys) × (AllSame SameStmt xs ys → answer ≡ true) → ((answer ≡ true) → SameBlock one other) × (SameBlock one other → answer ≡ true)
block_iff one other xs ys answer is is' (only, all) = (
  λ holds. subst (λ statements. SameStatements statements other.statements) is (subst (SameStatements (statements_of xs)) is' (stmts_to xs ys (only holds))),
  λ same. all (stmts_from xs ys (subst (λ statements. SameStatements statements (statements_of ys)) (sym is) (subst (SameStatements one.statements) (sym is') same))),
)
