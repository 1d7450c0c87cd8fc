use Rattle.std.proofs.Common.{length, ap, arith}
use Rattle.model_core.proofs.Items.{item_within}
use Rattle.plan_inventory.proofs.Suiting.{root_fails, one_more_root}
use Rattle.plan_inventory.proofs.roots.unsuited_root.Goals as goal

pub returns-then-not-root_becomes : goal.returns-then-not-root_becomes
returns-then-not-root_becomes c = record {
  fails = root_fails c.args.model.now c.args.plan.now c.as_slice-root-items.result.now c.loop-number.number c.root-item.result c.as_slice-root-items.ensures c.loop-number-test.true c.root-item.is c.if-not-root_becomes.ensures;
  before = c.loop-number.invariant;
}

pub loop-number-preserved : goal.loop-number-preserved
loop-number-preserved c =
    one_more_root c.args.model.now c.args.plan.now c.as_slice-root-items.result.now c.loop-number.number c.root-item.result c.as_slice-root-items.ensures c.loop-number-test.true c.root-item.is
    c.loop-number.invariant c.if-not-root_becomes.ensures

pub returns : goal.returns
returns c = λ number root is.
    c.loop-number.invariant number
    (omega (arith, item_within c.args.model.now.problem.roots number root is, c.loop-number-test.false, ap length c.as_slice-root-items.ensures)) root is
