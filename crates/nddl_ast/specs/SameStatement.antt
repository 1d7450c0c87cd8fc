-- When two statements of the code are equal but for the places in them.
use Rattle.nddl_ast.specs.declared.statement.Stmt as declared
use Rattle.nddl_ast.specs.declared.statement.Stmt.TheVariants.{Variable, Call, Ask, If, Foreach}
use Rattle.nddl_ast.specs.Same.{BothSame, SameName, SameVariable, SameCall, SameAsk, SameCondition, SameBlock}

abbrev pub SameStmt : declared.Stmt → declared.Stmt → Type 0
SameStmt (Variable one) (Variable other) = SameVariable one other
SameStmt (Call one) (Call other) = SameCall one other
SameStmt (Ask one) (Ask other) = SameAsk one other
SameStmt (If at condition then otherwise) (If at' condition' then' otherwise') =
    SameCondition condition condition' × SameBlock then then' × BothSame SameBlock otherwise otherwise'
SameStmt (Foreach at name class body) (Foreach at' name' class' body') =
    SameName name name' × SameName class class' × SameBlock body body'
SameStmt one other = ⊥
