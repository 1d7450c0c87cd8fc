use Rattle.std.proofs.Common.{◌∙◌, ap}
use Rattle.model_core.specs.declared.model.Model.{Model}
use Rattle.std.proofs.lemmas.Result.{err_from_is_err_and}
use Rattle.plan_text.proofs.Predicates.{found_pred}
use Rattle.plan_core.proofs.Stepping.{values_found, values_stop, values_memory}
use Rattle.plan_core.proofs.readers.token_values.Goals as goal

pub returns-in_err-first : goal.returns-in_err-first
returns-in_err-first c =
    let p = err_from_is_err_and c.from_residual.result c.from_residual.ensures.1 in
    rw (p.1, p.2) (values_stop c.args.model.now c.args.number c.index-as_slice-number.result c.args.cursor.now.rest.now c.first_parts.new.cursor.rest.now _
    (found_pred c.args.model.now c.args.number c.as_slice.result.now c.index-as_slice-number.result c.requires.there (c.as_slice.ensures ∙ ap (λ (m : Model). m.preds) c.model.ensures) c.index-as_slice-number.is) c.in_err-first.ensures)

pub returns-in_err-values : goal.returns-in_err-values
returns-in_err-values c =
    let p = err_from_is_err_and c.from_residual-in_err-values.result c.from_residual-in_err-values.ensures.1 in
    rw p.1 (values_memory c.args.model.now c.args.number c.index-as_slice-number.result c.args.cursor.now.rest.now c.first_parts.new.cursor.rest.now _
    (found_pred c.args.model.now c.args.number c.as_slice.result.now c.index-as_slice-number.result c.requires.there (c.as_slice.ensures ∙ ap (λ (m : Model). m.preds) c.model.ensures) c.index-as_slice-number.is) p.2)

pub returns : goal.returns
returns c =
    values_found c.args.model.now c.args.number c.index-as_slice-number.result c.as_slice-2.result.now c.args.cursor.now.rest.now c.first_parts.new.cursor.rest.now c.last_parts-read.new.cursor.rest.now
    c.in_ok-first.first c.in_ok-values.values.items c.last_parts-read.new.values.items c.last_parts-read.result c.all_values.result
    (found_pred c.args.model.now c.args.number c.as_slice.result.now c.index-as_slice-number.result c.requires.there (c.as_slice.ensures ∙ ap (λ (m : Model). m.preds) c.model.ensures) c.index-as_slice-number.is) c.as_slice-2.ensures
    c.in_ok-first.ensures c.in_ok-values.ensures.items c.last_parts-read.ensures c.all_values.ensures
