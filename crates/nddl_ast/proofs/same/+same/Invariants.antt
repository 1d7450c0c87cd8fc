use Rattle.std.proofs.Common.{drop}
use Rattle.nddl_ast.specs.Same.{AllSame}
use Rattle.nddl_ast.specs.SameStatement.{SameStmt}
use Rattle.nddl_ast.proofs.same.+same.Given as goal

abbrev pub invariant-same_stmts-loop-i : goal.invariant-same_stmts-loop-i
invariant-same_stmts-loop-i l = record {
  forth : AllSame SameStmt l.one l.other → AllSame SameStmt (drop l.i l.one) (drop l.i l.other);
  back : AllSame SameStmt (drop l.i l.one) (drop l.i l.other) → AllSame SameStmt l.one l.other;
}
