-- When two tokens are of one predicate.
use Rattle.std.proofs.Common.{◌≡◌, ℕ, Bool, sym, ap, ◌∙◌}
use Rattle.std.specs.Prelude.{MatchBool}
use Rattle.eu_name.specs.declared.name.TokenName.{TokenName}
use Rattle.model_core.specs.declared.model.Model.{Model}
use Rattle.model_core.specs.declared.rule.Slot.{Slot}
use Rattle.model_core.proofs.Leading.{token_once}
use Rattle.model_core.specs.Tokens.{HasPred}
use Rattle.plan_defs.specs.Refusals.{HaveSamePredicate}
use Rattle.plan_values.proofs.Matching.{match_bool}

module _ (model : Model) (one other : TokenName) where
  pub preds_answer : (pred found : ℕ) (answer : Bool) → HasPred model one pred → HasPred model other found → MatchBool answer (pred ≡ found) (pred ≡ found → ⊥)
      → MatchBool answer (HaveSamePredicate model one other) (HaveSamePredicate model one other → ⊥)
  preds_answer pred found answer (slot, has, is) (slot', has', is') same = match_bool answer _ _ _ _
      (λ e. record { slot = slot; other_slot = slot'; has_one = has; has_other = has'; same = is ∙ (e ∙ sym is') })
      (λ apart have. apart (
      sym is ∙ (ap (λ (s : Slot). s.pred) (token_once model one slot have.slot has have.has_one)
      ∙ (have.same ∙ (ap (λ (s : Slot). s.pred) (token_once model other have.other_slot slot' have.has_other has') ∙ is'))))) same
