-- What the values of tokens that suit lie within.
use Rattle.std.proofs.Common.{◌≡◌, ℤ, pos, ◌≤ℤ◌, List, [], ◌∷◌, Some, inl, refl, sym, ap, ◌∙◌, subst}
use Rattle.std.specs.Prelude.{slice_get, codes}
use Rattle.domain_core.specs.Domain.{Domain, Range, Has}
use Rattle.eu_name.specs.declared.name.Part.{Part}
use Rattle.eu_name.specs.declared.name.Part.TheVariants.{Start, End, Param}
use Rattle.eu_name.specs.declared.name.TokenName.{TokenName}
use Rattle.eu_name.specs.declared.name.VarName.TheVariants as variables
use Rattle.eu_name.proofs.Members.{get_same, get_from_contains}
use Rattle.model_core.specs.declared.class.Pred.{Pred}
use Rattle.model_core.specs.declared.class.PredKind.{PredKind}
use Rattle.model_core.specs.declared.class.PredKind.TheVariants.{Plain, Uses, Produce, Consume}
use Rattle.model_core.specs.declared.model.Model.{Model}
use Rattle.model_core.specs.declared.rule.Slot.{Slot}
use Rattle.model_core.specs.declared.variable.Base.TheVariants.{Given}
use Rattle.model_core.specs.declared.variable.ValueKind.TheVariants as kinds
use Rattle.model_core.specs.declared.variable.VarDecl.{VarDecl}
use Rattle.model_core.specs.Lawful.{IsLawful, HasQuantity}
use Rattle.model_core.proofs.Leading.{token_once}
use Rattle.plan_defs.specs.declared.plan.Clause.TheVariants.{V3}
use Rattle.plan_defs.specs.declared.plan.Line.TheVariants as lines
use Rattle.plan_defs.specs.declared.plan.Place.{Place}
use Rattle.plan_defs.specs.declared.plan.Place.TheVariants as places
use Rattle.plan_defs.specs.declared.plan.Plan.{Plan}
use Rattle.plan_defs.specs.Claims.{HasPart}
use Rattle.plan_defs.specs.Plans.{TakesPlaceWith}
use Rattle.plan_defs.specs.Refusals.{IsDeclared}
use Rattle.plan_defs.specs.Valid.{IsOfSort, IsPartOf, SuitsToken, IsClauseKept}
use Rattle.plan_values.specs.Keys.{IsOrderly}
use Rattle.plan_values.proofs.Naming.{gives_there}

quantity_of : (kind : PredKind) (params : List VarDecl) → (kind ≡ Plain → ⊥) → HasQuantity kind params
    → params ≡ record { name = codes "quantity"; kind = kinds.Int; base = Given (Range (pos 0) (pos 1000000)) } ∷ []
quantity_of Plain params not_plain is = absurd (not_plain refl)
quantity_of Uses params not_plain is = is
quantity_of Produce params not_plain is = is
quantity_of Consume params not_plain is = is

some_same : {X : Type 0} (x y : X) → Some x ≡ Some y → x ≡ y
some_same x y e = cc

given_same : (base domain : Domain) → Given base ≡ Given domain → base ≡ domain
given_same base domain e = cc

module _ (model : Model) (plan : Plan) (lawful : IsLawful model) (ok : IsOrderly plan) (kept : (place : Place) → IsClauseKept model plan V3 place) where
  suited : (token : TokenName) (values : List ℤ) → TakesPlaceWith plan token values → SuitsToken model plan token
  suited token values (fact, there) =
      let at = get_from_contains plan.lines (lines.Token token fact values) there in
      kept (places.Line at.0) (lines.Token token fact values) at.1

  module _ (token : TokenName) (values : List ℤ) (takes : TakesPlaceWith plan token values) where
    declared_there : (part : Part) (value : ℤ) → HasPart model token part → IsPartOf values part value → IsDeclared model (variables.Token token part) value
    declared_there part value has at =
        let found = (suited token values takes).parts part has in
        let there = gives_there plan ok token part values found.0 (inl takes) found.1 in
        subst (IsDeclared model (variables.Token token part)) (some_same found.0 value (sym there ∙ at)) found.2

    module _ (kind : PredKind) (sort : IsOfSort model kind token) where
      pub starts_within : (value : ℤ) → IsPartOf values Start value → (model.problem.start ≤ℤ value) × (value ≤ℤ model.problem.end)
      starts_within value at =
          let declared = declared_there Start value (sort.slot, sort.has_token, (Given (Range model.problem.start model.problem.end), refl)) at in
          subst (λ (d : Domain). Has d value) (given_same declared.0 (Range model.problem.start model.problem.end) declared.1.2) declared.2

      pub ends_within : (value : ℤ) → IsPartOf values End value → (model.problem.start ≤ℤ value) × (value ≤ℤ model.problem.end)
      ends_within value at =
          let declared = declared_there End value (sort.slot, sort.has_token, (Given (Range model.problem.start model.problem.end), refl)) at in
          subst (λ (d : Domain). Has d value) (given_same declared.0 (Range model.problem.start model.problem.end) declared.1.2) declared.2

      pub quantity_within : (value : ℤ) → (kind ≡ Plain → ⊥) → IsPartOf values (Param 0) value → (pos 0 ≤ℤ value) × (value ≤ℤ pos 1000000)
      quantity_within value not_plain at =
          let quantity : VarDecl = record { name = codes "quantity"; kind = kinds.Int; base = Given (Range (pos 0) (pos 1000000)) } in
          let params = quantity_of sort.predicate.kind sort.predicate.params (λ e. not_plain (sym sort.is_kind ∙ e)) (lawful.preds sort.slot.pred sort.predicate sort.is_predicate).quantity in
          let declared = declared_there (Param 0) value (
            sort.slot,
            sort.has_token,
            (quantity.base, (quantity, record { predicate = sort.predicate; is_predicate = sort.is_predicate; declared = ap (λ (ps : List VarDecl). slice_get ps 0) params }, refl)),
          ) at in
          let base = declared.1 in
          let inner = base.2.1 in
          let slots = token_once model token base.0 sort.slot base.1 sort.has_token in
          let moved : slice_get model.preds sort.slot.pred ≡ Some inner.predicate = subst (λ (s : Slot). slice_get model.preds s.pred ≡ Some inner.predicate) slots inner.is_predicate in
          let preds = get_same model.preds sort.slot.pred inner.predicate sort.predicate moved sort.is_predicate in
          let listed : slice_get sort.predicate.params 0 ≡ Some base.2.0 = subst (λ (p : Pred). slice_get p.params 0 ≡ Some base.2.0) preds inner.declared in
          let variable = some_same quantity base.2.0 (sym (ap (λ (ps : List VarDecl). slice_get ps 0) params) ∙ listed) in
          let given : Given declared.0 ≡ Given (Range (pos 0) (pos 1000000)) = base.2.2 ∙ sym (ap (λ (v : VarDecl). v.base) variable) in
          subst (λ (d : Domain). Has d value) (given_same declared.0 (Range (pos 0) (pos 1000000)) given) declared.2
