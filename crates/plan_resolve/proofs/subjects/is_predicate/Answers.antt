use Rattle.std.proofs.Common.{◌∙◌, ap}
use Rattle.model_core.specs.declared.model.Model.{Model}
use Rattle.plan_text.proofs.Predicates.{class_within}
use Rattle.plan_resolve.proofs.Naming.{predicate_is}
use Rattle.plan_resolve.proofs.subjects.is_predicate.Goals as goal

pub bounds-as_slice-pred : goal.bounds-as_slice-pred
bounds-as_slice-pred c = class_within c.args.model.now c.args.number c.as_slice.result.now c.index-as_slice-number.result c.as_slice-2.result.now c.requires.lawful c.requires.there (c.as_slice.ensures ∙ ap (λ (m : Model). m.preds) c.model-plain.ensures) c.index-as_slice-number.is (c.as_slice-2.ensures ∙ ap (λ (m : Model). m.classes) c.model-plain.ensures)

pub returns : goal.returns
returns c =
    predicate_is c.args.model.now c.args.number c.as_slice.result.now c.index-as_slice-number.result c.as_slice-2.result.now c.index-as_slice-pred.result c.as_bytes.result.now c.as_bytes-2.result.now c.args.word.now c.is_pair.result
    c.requires.lawful c.requires.there (c.as_slice.ensures ∙ ap (λ (m : Model). m.preds) c.model-plain.ensures) c.index-as_slice-number.is (c.as_slice-2.ensures ∙ ap (λ (m : Model). m.classes) c.model-plain.ensures) c.index-as_slice-pred.is c.as_bytes.ensures c.as_bytes-2.ensures c.is_pair.ensures
