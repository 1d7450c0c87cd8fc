-- The root and the steps lead to a predicate of the model, or the model hasn't the token.
use Rattle.std.proofs.Common.{Some, None, ◌≡◌, sym, ◌∙◌, ap}
use Rattle.std.specs.Prelude.{slice_get, option_copied}
use Rattle.model_core.specs.declared.class.Pred.{Pred}
use Rattle.model_core.specs.declared.rule.Slot.{Slot}
use Rattle.model_core.specs.Tokens.{HasToken}
use Rattle.db_resources.proofs.Predicates.{no_root, no_way, found_pred, copied_told}
use Rattle.db_resources.proofs.actor.pred_of.Goals as goal

pub returns-in_default : goal.returns-in_default
returns-in_default c = λ slot predicate has is.
    let none : slice_get c.args.model.now.problem.roots c.args.token.now.root ≡ None =
    ap (λ list. slice_get list c.args.token.now.root) (sym c.as_slice.ensures) ∙ sym c.in_default.ensures in
    no_root c.args.model.now c.args.token.now none slot has

pub returns-in_default-pred_after : goal.returns-in_default-pred_after
returns-in_default-pred_after c = λ slot predicate has is.
    let root : slice_get c.args.model.now.problem.roots c.args.token.now.root ≡ Some c.in-Some.root.now =
    ap (λ list. slice_get list c.args.token.now.root) (sym c.as_slice.ensures) ∙ sym c.in-Some.ensures in
    no_way c.args.model.now c.args.token.now c.in-Some.root.now c.as_slice-2.result.now root c.as_slice-2.ensures c.in_default-pred_after.ensures slot has

pub returns : goal.returns
returns c =
    let model = c.args.model.now in
    let root : slice_get model.problem.roots c.args.token.now.root ≡ Some c.in-Some.root.now =
    ap (λ list. slice_get list c.args.token.now.root) (sym c.as_slice.ensures) ∙ sym c.in-Some.ensures in
    let there : option_copied c.item_at-2.result ≡ slice_get model.preds c.in-Some-pred_after.pred =
    c.item_at-2.ensures ∙ ap (λ list. slice_get list c.in-Some-pred_after.pred) c.as_slice-3.ensures in
    copied_told _ (λ (predicate : Pred). (slot : Slot) × HasToken model c.args.token.now slot × (slice_get model.preds slot.pred ≡ Some predicate)) c.item_at-2.result
    (found_pred model c.args.token.now c.in-Some.root.now c.as_slice-2.result.now c.in-Some-pred_after.pred (option_copied c.item_at-2.result) root c.as_slice-2.ensures c.in-Some-pred_after.ensures there)
