use Rattle.std.proofs.Common.{ℕ, ◌<◌, length, subst}
use Rattle.model_core.proofs.Items.{item_within}
use Rattle.plan_defs.specs.Plans.{AreTokenValues}
use Rattle.plan_text.specs.declared.statement.Keyword.{Keyword}
use Rattle.plan_text.specs.Lines.{OneKeyword}
use Rattle.plan_text.specs.Words.{IsPaused}
use Rattle.plan_text.specs.Writing.{Adds}
use Rattle.plan_text.proofs.Lining.{active_put}
use Rattle.plan_text.proofs.writing.put_active.Goals as goal

pub put_predicate-requires-clause-there : goal.put_predicate-requires-clause-there
put_predicate-requires-clause-there c =
    let line = c.requires.line in
    subst (λ (n : ℕ). n < length c.args.model.now.preds) (c.pred_of-pred.ensures line.0 line.1) (item_within c.args.model.now.preds line.0.pred line.2.0 line.2.1)

pub put_values-requires-clause-values : goal.put_values-requires-clause-values
put_values-requires-clause-values c =
    let line = c.requires.line in
    subst (λ (n : ℕ). AreTokenValues c.args.model.now n c.args.values.now) (c.pred_of-pred.ensures line.0 line.1) line.2

pub returns : goal.returns
returns c =
    let line = c.requires.line in
    active_put c.args.model.now c.args.fact c.args.name.now c.pred_of-pred.result c.args.values.now c.args.out.now.items c.put_keyword.new.out.items c.put_token.new.out.items c.put_predicate.new.out.items c.put_values.new.out.items c.put_values.result
    (line.0, line.1) c.pred_of-pred.ensures
    (subst (λ (k : Keyword). Adds IsPaused OneKeyword k c.args.out.now.items c.put_keyword.new.out.items) c.active_keyword.ensures c.in_ok-put_keyword.ensures)
    c.in_ok-put_token.ensures c.in_ok-put_predicate.ensures c.put_values.ensures
