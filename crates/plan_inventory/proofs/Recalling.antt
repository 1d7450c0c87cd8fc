-- What is known of the rule that was asked for last.
use Rattle.std.proofs.Common.{◌≡◌, ℕ, Some, None, sym, ◌∙◌, subst}
use Rattle.eu_name.specs.declared.name.TokenName.{TokenName}
use Rattle.model_core.specs.declared.model.Model.{Model}
use Rattle.plan_defs.specs.declared.plan.Plan.{Plan}
use Rattle.plan_defs.specs.Valid.{IsActivatedAt}
use Rattle.plan_inventory.specs.declared.recalled.Recalled.{Recalled}
use Rattle.plan_inventory.specs.Marking.{MarksRule}
use Rattle.plan_inventory.specs.Recalling.{Recalls}
use Rattle.plan_inventory.proofs.Sweeping.{one_activated}

module _ (model : Model) (plan : Plan) where
  pub recalls_none : (recalled : Recalled) → recalled.place ≡ None → Recalls model plan recalled
  recalls_none recalled none place token is activated = let e : None ≡ Some place = sym none ∙ is in absurd (cc)

  module _ (place rule : ℕ) (token : TokenName) where
    pub recalls_new : (recalled : Recalled) → recalled.place ≡ Some place → recalled.rule ≡ rule → IsActivatedAt plan place token → MarksRule model plan token rule recalled.marks
        → Recalls model plan recalled
    recalls_new recalled at same activated marked other name is other_activated =
        let e : Some place ≡ Some other = sym at ∙ is in
        let places : place ≡ other = cc in
        let names = one_activated plan place token name activated (subst (λ (n : ℕ). IsActivatedAt plan n name) (sym places) other_activated) in
        subst (λ (t : TokenName). MarksRule model plan t recalled.rule recalled.marks) names
        (subst (λ (n : ℕ). MarksRule model plan token n recalled.marks) (sym same) marked)

    pub recalls_same : (recalled : Recalled) → IsActivatedAt plan place token → Recalls model plan recalled → (recalled.place ≡ Some place) × (recalled.rule ≡ rule)
        → MarksRule model plan token rule recalled.marks
    recalls_same recalled activated recalls is = subst (λ (n : ℕ). MarksRule model plan token n recalled.marks) is.1 (recalls place token is.0 activated)
