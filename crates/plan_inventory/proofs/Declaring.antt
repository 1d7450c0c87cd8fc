-- With which values the parameters of tokens are declared.
use Rattle.std.proofs.Common.{◌≡◌, ℕ, ◌<◌, ℤ, pos, ◌-ℤ◌, Bool, List, length, Some, refl, sym, ap, ◌∙◌, subst, arith}
use Rattle.std.specs.Prelude.{slice_get, MatchBool}
use Rattle.domain_core.specs.Domain.{Range}
use Rattle.eu_name.specs.declared.name.Part.TheVariants.{Start, End, Duration, Object, Param}
use Rattle.eu_name.specs.declared.name.TokenName.{TokenName}
use Rattle.eu_name.proofs.Members.{get_same, get_within}
use Rattle.model_core.specs.declared.class.Pred.{Pred}
use Rattle.model_core.specs.declared.model.Model.{Model}
use Rattle.model_core.specs.declared.rule.Slot.{Slot}
use Rattle.model_core.specs.declared.variable.Base.TheVariants.{Given}
use Rattle.model_core.specs.declared.variable.VarDecl.{VarDecl}
use Rattle.model_core.specs.Lawful.{IsLawful}
use Rattle.model_core.specs.Tokens.{HasToken, HasPred}
use Rattle.model_core.specs.Variables.{HasParameter}
use Rattle.model_core.proofs.Items.{item_within}
use Rattle.model_core.proofs.Leading.{token_once}
use Rattle.plan_values.proofs.Matching.{match_bool}
use Rattle.plan_inventory.specs.Bases.{IsDeclaredIn, AreDeclaredIn}

-- ---- parameters

module _ (model : Model) (lawful : IsLawful model) (number : ℕ) (found : Pred) (is_pred : slice_get model.preds number ≡ Some found) where
  pub few_params : length found.params < 65536
  few_params = omega (arith, (lawful.preds number found is_pred).few_params)

  pub params_below : (place : ℕ) (variable : VarDecl) → HasParameter model number place variable → place < length found.params
  params_below place variable has =
      let same = get_same model.preds number has.predicate found has.is_predicate is_pred in
      subst (λ (p : Pred). place < length p.params) same (item_within has.predicate.params place variable has.declared)

module _ (model : Model) (number : ℕ) (found : Pred) (is_pred : slice_get model.preds number ≡ Some found) where
  pub params_there : (place : ℕ) → place < length found.params → (variable : VarDecl) × HasParameter model number place variable
  params_there place below =
      let at = get_within found.params place below in
      (at.0, record { predicate = found; is_predicate = is_pred; declared = at.1 })

-- ---- all parts

module _ (model : Model) (token : TokenName) (pred : ℕ) (of_pred : HasPred model token pred) (values : List ℤ) where
  abbrev ParamsDeclared : Type 0
  ParamsDeclared = (number : ℕ) (variable : VarDecl) → HasParameter model pred number variable → IsDeclaredIn model token values (Param number)

  all_parts : IsDeclaredIn model token values Start → IsDeclaredIn model token values End → IsDeclaredIn model token values Duration → IsDeclaredIn model token values Object → ParamsDeclared
      → AreDeclaredIn model token values
  all_parts start end duration object params Start has = start
  all_parts start end duration object params End has = end
  all_parts start end duration object params Duration has = duration
  all_parts start end duration object params Object has = object
  all_parts start end duration object params (Param number) (slot, is, (base, (variable, declared, same))) =
      let preds : slot.pred ≡ pred = ap (λ (s : Slot). s.pred) (token_once model token slot of_pred.0 is of_pred.1) ∙ of_pred.2 in
      params number variable (subst (λ (n : ℕ). HasParameter model n number variable) preds declared)

  pub parts_answer : (answer : Bool) → IsDeclaredIn model token values Start → IsDeclaredIn model token values End → IsDeclaredIn model token values Duration → IsDeclaredIn model token values Object
      → MatchBool answer ParamsDeclared (ParamsDeclared → ⊥) → MatchBool answer (AreDeclaredIn model token values) (AreDeclaredIn model token values → ⊥)
  parts_answer answer start end duration object is = match_bool answer _ _ _ _
      (all_parts start end duration object)
      (λ none all. none (λ number variable declared.
      all (Param number) (of_pred.0, of_pred.1, (variable.base, (variable, subst (λ (n : ℕ). HasParameter model n number variable) (sym of_pred.2) declared, refl))))) is

  -- a token has the four parts that each has
  pub lacks_start : (IsDeclaredIn model token values Start → ⊥) → AreDeclaredIn model token values → ⊥
  lacks_start none all = none (all Start (of_pred.0, of_pred.1, (Given (Range model.problem.start model.problem.end), refl)))

  pub lacks_end : (IsDeclaredIn model token values End → ⊥) → AreDeclaredIn model token values → ⊥
  lacks_end none all = none (all End (of_pred.0, of_pred.1, (Given (Range model.problem.start model.problem.end), refl)))

  pub lacks_duration : (IsDeclaredIn model token values Duration → ⊥) → AreDeclaredIn model token values → ⊥
  lacks_duration none all = none (all Duration (of_pred.0, of_pred.1, (Given (Range (pos 1) (model.problem.end -ℤ model.problem.start)), refl)))

  pub lacks_object : (IsDeclaredIn model token values Object → ⊥) → AreDeclaredIn model token values → ⊥
  lacks_object none all = none (all Object (of_pred.0, of_pred.1, (of_pred.0.object, refl)))

pub no_parts : (model : Model) (token : TokenName) (values : List ℤ) → ((slot : Slot) → HasToken model token slot → ⊥) → AreDeclaredIn model token values
no_parts model token values none part has = absurd (none has.0 has.1)
