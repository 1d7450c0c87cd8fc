use Rattle.std.proofs.Common.{drop}
use Rattle.nddl_ast.specs.Same.{AllSame}
use Rattle.nddl_ast.proofs.same.are_same.Given as goal

abbrev pub invariant-loop-i : goal.invariant-loop-i
invariant-loop-i g l = record {
  forth : AllSame g.T.Same.same l.one l.other → AllSame g.T.Same.same (drop l.i l.one) (drop l.i l.other);
  back : AllSame g.T.Same.same (drop l.i l.one) (drop l.i l.other) → AllSame g.T.Same.same l.one l.other;
}
