-- Tokens and their variables, by predicates.
use Rattle.std.proofs.Common.{◌≡◌, ℕ, List, Option, Some, None, pos, refl, sym, ap, ◌∙◌, subst}
use Rattle.std.specs.Prelude.{MatchOption, ◌-ℤ◌}
use Rattle.domain_core.specs.Domain.{Range}
use Rattle.eu_name.specs.declared.name.Part.{Part}
use Rattle.eu_name.specs.declared.name.Part.TheVariants.{Start, End, Duration, Object, Param}
use Rattle.eu_name.specs.declared.name.Step.{Step}
use Rattle.eu_name.specs.declared.name.TokenName.{TokenName}
use Rattle.eu_name.specs.declared.name.VarName.TheVariants.{Token, Local}
use Rattle.eu_name.proofs.Members.{get_same}
use Rattle.model_core.specs.declared.model.Model.{Model}
use Rattle.model_core.specs.declared.model.Root.{Root}
use Rattle.model_core.specs.declared.rule.Slot.{Slot}
use Rattle.model_core.specs.declared.variable.Base.TheVariants.{Given}
use Rattle.model_core.specs.Lookup.{LeadsOn}
use Rattle.model_core.specs.Tokens.{HasRule, HasToken, IsRoot, slot_of, HasPred}
use Rattle.model_core.specs.Variables.{HasParameter}
use Rattle.model_core.proofs.Leading.{on_reaches, reaches_on, token_once}
use Rattle.model_lawful.specs.Parts.{HasPart, HasRuleLocal, HasVariable}

module _ (model : Model) (token : TokenName) where
  pub no_root : ((root : Root) → IsRoot model token.root root → ⊥) → (pred : ℕ) → HasPred model token pred → ⊥
  no_root none pred (slot, has, same) = none has.root has.is_root

  pub pred_told : (root : Root) → IsRoot model token.root root → (steps : List Step) → steps ≡ token.steps → (found : Option ℕ)
      → MatchOption found ((reached : ℕ) → LeadsOn model root.pred steps reached → ⊥) (LeadsOn model root.pred steps)
      → MatchOption found ((pred : ℕ) → HasPred model token pred → ⊥) (HasPred model token)
  pred_told root at steps same (Some pred) leads =
      let on = on_reaches model (slot_of root) pred token.steps (subst (λ (l : List Step). LeadsOn model root.pred l pred) same leads) in
      (on.0, record { root = root; is_root = at; reached = on.1 }, on.2)
  pred_told root at steps same None none = λ pred has.
      let roots = get_same model.problem.roots token.root has.1.root root has.1.is_root at in
      let leads = reaches_on model (slot_of has.1.root) has.0 token.steps has.1.reached in
      none has.0.pred (subst (λ (r : Root). LeadsOn model r.pred steps has.0.pred) roots (subst (λ (l : List Step). LeadsOn model has.1.root.pred l has.0.pred) (sym same) leads))

  module _ (pred : ℕ) (of : HasPred model token pred) where
    preds_same : (slot : Slot) → HasToken model token slot → slot.pred ≡ pred
    preds_same slot has = ap (λ (s : Slot). s.pred) (token_once model token slot of.0 has of.1) ∙ of.2

    pub part_there : (part : Part) → HasPart model pred part → HasVariable model (Token token part)
    part_there Start has = (Given (Range model.problem.start model.problem.end), (of.0, of.1, refl))
    part_there End has = (Given (Range model.problem.start model.problem.end), (of.0, of.1, refl))
    part_there Duration has = (Given (Range (pos 1) (model.problem.end -ℤ model.problem.start)), (of.0, of.1, refl))
    part_there Object has = (of.0.object, (of.0, of.1, refl))
    part_there (Param number) (variable, has) =
        (variable.base, (of.0, of.1, (variable, subst (λ (n : ℕ). HasParameter model n number variable) (sym of.2) has, refl)))

    pub there_part : (part : Part) → HasVariable model (Token token part) → HasPart model pred part
    there_part Start is = tt
    there_part End is = tt
    there_part Duration is = tt
    there_part Object is = tt
    there_part (Param number) (base, (slot, has, (variable, is, same))) =
        (variable, subst (λ (n : ℕ). HasParameter model n number variable) (preds_same slot has) is)

    pub local_there : (rule number : ℕ) → HasRuleLocal model pred rule number → HasVariable model (Local token rule number)
    local_there rule number (found, variable, has, at) = (
      variable.base,
      record {
        slot = of.0;
        has_token = of.1;
        variable = variable;
        has_local = record { found = found; has_rule = subst (λ (n : ℕ). HasRule model n rule found) (sym of.2) has; declared = at };
        is_base = refl;
      },
    )

    pub there_local : (rule number : ℕ) → HasVariable model (Local token rule number) → HasRuleLocal model pred rule number
    there_local rule number (base, is) =
        (is.has_local.found, is.variable, subst (λ (n : ℕ). HasRule model n rule is.has_local.found) (preds_same is.slot is.has_token) is.has_local.has_rule, is.has_local.declared)
