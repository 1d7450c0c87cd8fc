use Rattle.std.proofs.Common.{ℕ, List, Contains, true, subst}
use Rattle.model_rules.specs.Distinct.{AddsNew, pred_key}
use Rattle.model_rules.proofs.Adding.{adds_true, adds_false, added_more, added_twice}
use Rattle.model_rules.proofs.distinct.add_preds.Goals as goal

pub returns-then-not-branch : goal.returns-then-not-branch
returns-then-not-branch c =
    added_twice pred_key c.args.names.now c.args.preds.now c.loop-pred.pred-index c.pred-item.result c.loop-pred.names c.loop-pred-test.true c.pred-item.is c.loop-pred.invariant
    (subst (λ (name : List ℕ). Contains c.loop-pred.names (c.pred-item.result.class, name)) c.in_ok-name.ensures
    (adds_false c.loop-pred.names c.add.new.self (c.pred-item.result.class, c.in_ok-name.name) c.in_ok-add.field-0 c.if-not-branch.true c.in_ok-add.ensures))

pub loop-pred-preserved : goal.loop-pred-preserved
loop-pred-preserved c =
    added_more pred_key c.args.names.now c.args.preds.now c.loop-pred.pred-index c.pred-item.result c.loop-pred.names c.add.new.self c.loop-pred-test.true c.pred-item.is c.loop-pred.invariant
    (subst (λ (name : List ℕ). AddsNew c.loop-pred.names (c.pred-item.result.class, name) true c.add.new.self) c.in_ok-name.ensures
    (adds_true c.loop-pred.names c.add.new.self (c.pred-item.result.class, c.in_ok-name.name) c.in_ok-add.field-0 c.if-not-branch.false c.in_ok-add.ensures))
