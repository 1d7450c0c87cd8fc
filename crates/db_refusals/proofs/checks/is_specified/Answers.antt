use Rattle.std.proofs.Common.{◌≡◌, ℤ, Some, refl, ap, ◌∙◌, arith}
use Rattle.model_core.specs.declared.decision.Decision.{Decision}
use Rattle.model_core.specs.declared.decision.Decision.TheVariants.{Specify}
use Rattle.eu_name.proofs.Members.{get_from_contains, contains_from_get, get_below}
use Rattle.plan_values.proofs.Matching.{one_more, read_item}
use Rattle.db_refusals.proofs.checks.is_specified.Goals as goal

pub returns-then-specifies : goal.returns-then-specifies
returns-then-specifies c =
    let decisions = c.args.decisions.now in
    let here = c.if-specifies.ensures in
    let at = read_item decisions c.loop-decision.decision-index c.decision-item.result c.loop-decision-test.true c.decision-item.is in
    (here.0, contains_from_get decisions c.loop-decision.decision-index (Specify c.args.name.now here.0) (at ∙ ap (λ (d : Decision). Some d) here.1))

pub loop-decision-preserved : goal.loop-decision-preserved
loop-decision-preserved c =
    one_more (λ (other : Decision). (value : ℤ) → other ≡ Specify c.args.name.now value → ⊥) c.args.decisions.now c.loop-decision.decision-index c.decision-item.result
    c.loop-decision-test.true c.decision-item.is c.loop-decision.invariant c.if-specifies.ensures

pub returns : goal.returns
returns c = λ value there.
    let decisions = c.args.decisions.now in
    let at = get_from_contains decisions (Specify c.args.name.now value) there in
    let below = get_below decisions at.0 (Specify c.args.name.now value) at.1 in
    c.loop-decision.invariant at.0 (Specify c.args.name.now value) (omega (arith, below, c.loop-decision-test.false)) at.1 value refl
