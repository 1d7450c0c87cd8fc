use Rattle.nddl_lexer.proofs.Closing.{close_more, close_end}
use Rattle.nddl_lexer.proofs.fronts.close_len.Goals as goal
use Rattle.nddl_lexer.proofs.fronts.close_len.Goals.{else-text-i-eq42-via-then-text-i-eq42+else-text-i-eq47, else-text-i-eq42-via-else-text-i-eq42}

pub loop-i-preserved : goal.loop-i-preserved
loop-i-preserved c = close_more _ _ c.loop-i.auto.i c.loop-i-test.true c.loop-i.invariant
    (elim c.else-text-i-eq42.branch [
      | else-text-i-eq42-via-then-text-i-eq42+else-text-i-eq47 w ↦ (λ pair. w.if-text-i-eq47.false pair.1)
      | else-text-i-eq42-via-else-text-i-eq42 w ↦ (λ pair. w.if-text-i-eq42.false pair.0)
    ])

pub returns-clause-exact : goal.returns-clause-exact
returns-clause-exact c = close_end _ _ c.loop-i-test.false c.loop-i.invariant
