use Rattle.nddl_ast.proofs.Lists.{same_len}
use Rattle.nddl_ast.proofs.same.are_same.Goals as goal

pub returns-then-one-other : goal.returns-then-one-other
returns-then-one-other g c = (λ no. absurd (cc), λ same. absurd (c.if-one-other.true (same_len g.T.Same.same _ _ same)))
