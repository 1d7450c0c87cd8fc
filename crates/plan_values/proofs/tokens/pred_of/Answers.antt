use Rattle.std.proofs.Common.{◌≡◌, List, subst}
use Rattle.std.specs.Prelude.{MatchOption}
use Rattle.eu_name.specs.declared.name.Step.{Step}
use Rattle.model_core.specs.declared.rule.Slot.{Slot}
use Rattle.model_core.specs.Names.{token_at}
use Rattle.model_core.specs.Tokens.{HasToken}
use Rattle.plan_values.proofs.tokens.pred_of.Goals as goal

pub returns : goal.returns
returns c =
    let model = c.args.model.now in
    let root = c.args.token.now.root in
    subst (λ (steps : List Step). MatchOption c.pred_at.result ((slot : Slot) → HasToken model (token_at root steps) slot → ⊥) (λ pred. (slot : Slot) × HasToken model (token_at root steps) slot × (slot.pred ≡ pred)))
    c.as_slice.ensures c.pred_at.ensures
