-- With which values locals and globals are declared.
use Rattle.std.proofs.Common.{◌≡◌, ℕ, ℤ, Bool, Some, refl, sym, subst}
use Rattle.std.specs.Prelude.{slice_get, MatchBool}
use Rattle.domain_core.specs.Domain.{Domain, Has}
use Rattle.eu_name.specs.declared.name.TokenName.{TokenName}
use Rattle.eu_name.specs.declared.name.VarName.TheVariants as variables
use Rattle.eu_name.proofs.Members.{get_same}
use Rattle.model_core.specs.declared.model.Model.{Model}
use Rattle.model_core.specs.declared.rule.Rule.{Rule}
use Rattle.model_core.specs.declared.variable.Base.{Base}
use Rattle.model_core.specs.declared.variable.Base.TheVariants.{Given, Void}
use Rattle.model_core.specs.declared.variable.VarDecl.{VarDecl}
use Rattle.model_core.specs.Variables.{IsGlobal}
use Rattle.plan_defs.specs.Refusals.{IsDeclared}
use Rattle.plan_values.specs.Walks.{HasRuleOf}
use Rattle.plan_values.proofs.Matching.{match_bool}
use Rattle.plan_values.proofs.Ruling.{one_rule}
use Rattle.plan_values.specs.Bases.{BaseHas}

given_base : (base : Base) (value : ℤ) → BaseHas base value → (domain : Domain) × (Given domain ≡ base) × Has domain value
given_base (Given domain) value has = (domain, refl, has)
given_base Void value has = absurd has

module _ (model : Model) (token : TokenName) (number place : ℕ) where
  pub local_declared_answer : (rule : Rule) (variable : VarDecl) (value value' : ℤ) (answer : Bool) → HasRuleOf model token number rule → slice_get rule.locals place ≡ Some variable → value' ≡ value
      → MatchBool answer (BaseHas variable.base value') (BaseHas variable.base value' → ⊥)
      → MatchBool answer (IsDeclared model (variables.Local token number place) value) (IsDeclared model (variables.Local token number place) value → ⊥)
  local_declared_answer rule variable value value' answer is at cast has = match_bool answer _ _ _ _
      (λ base.
      let given = given_base variable.base value (subst (BaseHas variable.base) cast base) in (
        given.0,
        record { slot = is.slot; has_token = is.has_token; variable = variable; has_local = record { found = rule; has_rule = is.has_rule; declared = at }; is_base = given.1 },
        given.2,
      ))
      (λ none declared.
      let local = declared.1 in
      let rules = one_rule model token number local.has_local.found rule (record { slot = local.slot; has_token = local.has_token; has_rule = local.has_local.has_rule }) is in
      let there = subst (λ (r : Rule). slice_get r.locals place ≡ Some local.variable) rules local.has_local.declared in
      let variables_same = get_same rule.locals place local.variable variable there at in
      let base : BaseHas local.variable.base value = subst (λ (b : Base). BaseHas b value) local.is_base declared.2 in
      none (subst (BaseHas variable.base) (sym cast) (subst (λ (v : VarDecl). BaseHas v.base value) variables_same base))) has

  pub no_local_there : (rule : Rule) (value : ℤ) → HasRuleOf model token number rule → ((variable : VarDecl) → slice_get rule.locals place ≡ Some variable → ⊥)
      → IsDeclared model (variables.Local token number place) value → ⊥
  no_local_there rule value is none declared =
      let local = declared.1 in
      let rules = one_rule model token number local.has_local.found rule (record { slot = local.slot; has_token = local.has_token; has_rule = local.has_local.has_rule }) is in
      none local.variable (subst (λ (r : Rule). slice_get r.locals place ≡ Some local.variable) rules local.has_local.declared)

  pub no_rule_there : (value : ℤ) → ((rule : Rule) → HasRuleOf model token number rule → ⊥) → IsDeclared model (variables.Local token number place) value → ⊥
  no_rule_there value none declared =
      let local = declared.1 in
      none local.has_local.found (record { slot = local.slot; has_token = local.has_token; has_rule = local.has_local.has_rule })

module _ (model : Model) (number : ℕ) where
  pub global_declared_answer : (variable : VarDecl) (value value' : ℤ) (answer : Bool) → IsGlobal model number variable → value' ≡ value
      → MatchBool answer (BaseHas variable.base value') (BaseHas variable.base value' → ⊥)
      → MatchBool answer (IsDeclared model (variables.Global number) value) (IsDeclared model (variables.Global number) value → ⊥)
  global_declared_answer variable value value' answer is cast has = match_bool answer _ _ _ _
      (λ base.
      let given = given_base variable.base value (subst (BaseHas variable.base) cast base) in
      (given.0, (variable, is, given.1), given.2))
      (λ none declared.
      let same = get_same model.problem.globals number declared.1.0 variable declared.1.1 is in
      let base : BaseHas declared.1.0.base value = subst (λ (b : Base). BaseHas b value) declared.1.2 declared.2 in
      none (subst (BaseHas variable.base) (sym cast) (subst (λ (v : VarDecl). BaseHas v.base value) same base))) has

  pub no_global_there : (value : ℤ) → ((variable : VarDecl) → IsGlobal model number variable → ⊥) → IsDeclared model (variables.Global number) value → ⊥
  no_global_there value none declared = none declared.1.0 declared.1.1
