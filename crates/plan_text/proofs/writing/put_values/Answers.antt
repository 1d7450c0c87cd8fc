use Rattle.model_core.proofs.Items.{item_within}
use Rattle.plan_text.proofs.Predicates.{found_pred}
use Rattle.plan_text.proofs.Stepping.{param_names, last_values, values_put}
use Rattle.plan_text.proofs.writing.put_values.Goals as goal

pub put_parameters-requires-clause-names : goal.put_parameters-requires-clause-names
put_parameters-requires-clause-names c =
    let there = item_within c.args.model.now.preds c.args.number c.requires.values.0 c.requires.values.1 in
    param_names c.args.model.now c.args.number c.index-as_slice-number.result c.as_slice-2.result.now c.requires.lawful
    (found_pred c.args.model.now c.args.number c.as_slice.result.now c.index-as_slice-number.result there c.as_slice.ensures c.index-as_slice-number.is) c.as_slice-2.ensures

pub put_parameters-requires-clause-values : goal.put_parameters-requires-clause-values
put_parameters-requires-clause-values c =
    let there = item_within c.args.model.now.preds c.args.number c.requires.values.0 c.requires.values.1 in
    last_values c.args.model.now c.args.number c.index-as_slice-number.result c.as_slice-2.result.now c.args.values.now c.split_at.result.1.now c.requires.values
    (found_pred c.args.model.now c.args.number c.as_slice.result.now c.index-as_slice-number.result there c.as_slice.ensures c.index-as_slice-number.is) c.as_slice-2.ensures c.split_at.ensures.back

pub returns : goal.returns
returns c =
    let there = item_within c.args.model.now.preds c.args.number c.requires.values.0 c.requires.values.1 in
    values_put c.args.model.now c.args.number c.index-as_slice-number.result c.as_slice-2.result.now c.args.values.now c.split_at.result.0.now c.split_at.result.1.now
    c.args.out.now.items c.put_first_parts.new.out.items c.put_parameters.new.out.items c.put_parameters.result
    (found_pred c.args.model.now c.args.number c.as_slice.result.now c.index-as_slice-number.result there c.as_slice.ensures c.index-as_slice-number.is) c.as_slice-2.ensures c.split_at.ensures.front c.split_at.ensures.back
    c.in_ok-put_first_parts.ensures c.put_parameters.ensures
