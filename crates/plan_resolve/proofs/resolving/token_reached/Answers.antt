use Rattle.std.proofs.Common.{◌∙◌, ℕ, get_or, refl, ap, subst}
use Rattle.model_core.specs.declared.model.Model.{Model}
use Rattle.model_core.specs.Lookup.{LeadsOn}
use Rattle.model_core.proofs.Leading.{found_there, found_not}
use Rattle.plan_resolve.proofs.resolving.token_reached.Goals as goal

pub returns-in_err-pred : goal.returns-in_err-pred
returns-in_err-pred c =
    rw c.from_residual-in_err-pred.ensures (found_not c.args.model.now c.args.name.now c.in_ok-root.root c.as_slice.result.now c.index-as_slice-root.result c.args.name.now.label c.as_slice-2.result.now
    c.requires (c.as_slice.ensures ∙ ap (λ (m : Model). m.problem.roots) c.model-plain.ensures) refl c.as_slice-2.ensures c.in_ok-root.ensures
    (subst (λ (m : Model). (pred : ℕ) → LeadsOn m (get_or c.as_slice.result.now c.in_ok-root.root c.index-as_slice-root.result).pred c.as_slice-2.result.now pred → ⊥) c.model-plain.ensures c.in_err-pred.ensures))

pub returns : goal.returns
returns c =
    found_there c.args.model.now c.args.name.now c.in_ok-root.root c.in_ok-pred.pred c.as_slice.result.now c.index-as_slice-root.result c.args.name.now.label c.as_slice-2.result.now
    (c.as_slice.ensures ∙ ap (λ (m : Model). m.problem.roots) c.model-plain.ensures) refl c.as_slice-2.ensures c.in_ok-root.ensures
    (subst (λ (m : Model). LeadsOn m (get_or c.as_slice.result.now c.in_ok-root.root c.index-as_slice-root.result).pred c.as_slice-2.result.now c.in_ok-pred.pred) c.model-plain.ensures c.in_ok-pred.ensures)
