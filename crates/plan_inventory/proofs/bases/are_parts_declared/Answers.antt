use Rattle.plan_inventory.proofs.Declaring.{parts_answer, lacks_start, lacks_end, lacks_duration, lacks_object}
use Rattle.plan_inventory.proofs.bases.are_parts_declared.Goals as goal

pub returns-then-not-is_declared_in : goal.returns-then-not-is_declared_in
returns-then-not-is_declared_in c = lacks_start c.args.model.now c.args.token.now c.args.pred c.requires.of_pred c.args.values.now c.if-not-is_declared_in.ensures

pub returns-then-not-is_declared_in-2 : goal.returns-then-not-is_declared_in-2
returns-then-not-is_declared_in-2 c = lacks_end c.args.model.now c.args.token.now c.args.pred c.requires.of_pred c.args.values.now c.if-not-is_declared_in-2.ensures

pub returns-then-not-is_declared_in-3 : goal.returns-then-not-is_declared_in-3
returns-then-not-is_declared_in-3 c = lacks_duration c.args.model.now c.args.token.now c.args.pred c.requires.of_pred c.args.values.now c.if-not-is_declared_in-3.ensures

pub returns-then-not-is_declared_in-4 : goal.returns-then-not-is_declared_in-4
returns-then-not-is_declared_in-4 c = lacks_object c.args.model.now c.args.token.now c.args.pred c.requires.of_pred c.args.values.now c.if-not-is_declared_in-4.ensures

pub returns : goal.returns
returns c =
    parts_answer c.args.model.now c.args.token.now c.args.pred c.requires.of_pred c.args.values.now c.are_params_declared.result
    c.if-not-is_declared_in.ensures c.if-not-is_declared_in-2.ensures c.if-not-is_declared_in-3.ensures c.if-not-is_declared_in-4.ensures c.are_params_declared.ensures
