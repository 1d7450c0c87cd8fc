use Rattle.std.proofs.Common.{arith}
use Rattle.plan_defs.proofs.Members.{all_from_get}
use Rattle.eu_name.proofs.Members.{get_below}
use Rattle.plan_values.specs.Meanings.{context_of, CountsAt}
use Rattle.plan_values.proofs.claims.all_count.Goals as goal

pub returns : goal.returns
returns c =
    all_from_get (CountsAt c.args.model.now c.args.plan.now (context_of c.args.at)) c.args.terms.now
    (λ k term at. c.loop-term.invariant k term (omega (arith, get_below c.args.terms.now k term at, c.loop-term-test.false)) at)
