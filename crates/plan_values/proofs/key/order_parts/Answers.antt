use Rattle.std.proofs.Common.{refl}
use Rattle.plan_values.proofs.Ranking.{parts_compared}
use Rattle.plan_values.proofs.key.order_parts.Goals as goal

pub returns : goal.returns
returns c =
    parts_compared c.args.root c.args.other c.args.steps.now c.args.others.now _ _ _ _ _ _ _ refl refl
    c.cmp-by_count.ensures c.cmp-by_root.ensures c.cmp-by_step.ensures c.then.ensures c.then-2.ensures
