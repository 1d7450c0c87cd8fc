-- The value in the line of a local.
use Rattle.std.proofs.Common.{◌≡◌, ℕ, ℤ, List, Result, Ok, Err, Some, slice_get, w32, to_z, of_z, sym, ◌∙◌, ap, subst}
use Rattle.std.specs.Prelude.{OnOk}
use Rattle.eu_name.specs.declared.name.TokenName.{TokenName}
use Rattle.eu_name.specs.declared.name.VarName.{VarName}
use Rattle.eu_name.specs.declared.name.VarName.TheVariants as variables
use Rattle.model_core.specs.declared.model.Model.{Model}
use Rattle.model_core.specs.declared.rule.Rule.{Rule}
use Rattle.model_core.specs.declared.rule.Slot.{Slot}
use Rattle.model_core.specs.declared.variable.Base.{Base}
use Rattle.model_core.specs.declared.variable.ValueKind.{ValueKind}
use Rattle.model_core.specs.declared.variable.VarDecl.{VarDecl}
use Rattle.model_core.specs.Kinds.{IsValueOf}
use Rattle.model_core.specs.Lawful.{IsLawful}
use Rattle.model_core.specs.Variables.{HasLocal, HasBase}
use Rattle.model_core.proofs.Leading.{token_once}
use Rattle.model_core.proofs.Rules.{has_rule_once}
use Rattle.plan_defs.specs.declared.plan.Line.{Line}
use Rattle.plan_defs.specs.declared.plan.Line.TheVariants as lines
use Rattle.plan_defs.specs.Plans.{IsLocalValue, IsLineOf}
use Rattle.plan_text.specs.Subjects.{IsLocalOfKind}
use Rattle.plan_text.specs.Values.{OneValue}
use Rattle.plan_text.specs.Words.{IsPaused}
use Rattle.plan_text.specs.Writing.{Adds}
use Rattle.plan_text.proofs.Stepping.{local_base, kept_is, kept_value}

pub local_has : (model : Model) (name : VarName) (token : TokenName) (rule number : ℕ) (value : ℤ) → name ≡ variables.Local token rule number → IsLocalValue model name value
    → (base : Base) × HasBase model (variables.Local token rule number) base
local_has model name token rule number value is of = local_base model (variables.Local token rule number) value (subst (λ n. IsLocalValue model n value) is of)

-- a token's local is of one kind
locals_once : (model : Model) (slot : Slot) (rule number : ℕ) (one other : VarDecl) → HasLocal model slot rule number one → HasLocal model slot rule number other → one ≡ other
locals_once model slot rule number one other first second =
    let rules : second.found ≡ first.found = has_rule_once model slot.pred rule second.found first.found second.has_rule first.has_rule in
    let there : slice_get first.found.locals number ≡ Some other = subst (λ (r : Rule). slice_get r.locals number ≡ Some other) rules second.declared in
    let both : Some one ≡ Some other = sym first.declared ∙ there in
    cc

of_kind : (model : Model) (token : TokenName) (rule number : ℕ) (value : ℤ) (kind : ValueKind) → IsLocalValue model (variables.Local token rule number) value → IsLocalOfKind model kind (variables.Local token rule number)
    → IsValueOf model kind value
of_kind model token rule number value kind (slot, has, (variable, has_local, of)) (slot', (has', (variable', (has_local', same)))) =
    let slots : slot' ≡ slot = token_once model token slot' slot has' has in
    let variables_same : variable ≡ variable' = locals_once model slot rule number variable variable' has_local (subst (λ (s : Slot). HasLocal model s rule number variable') slots has_local') in
    subst (λ k. IsValueOf model k value) (ap (λ (v : VarDecl). v.kind) variables_same ∙ sym same) of

pub local_is : (model : Model) (name : VarName) (token : TokenName) (rule number : ℕ) (value : ℤ) (kind : ValueKind) → IsLawful model → name ≡ variables.Local token rule number → IsLocalValue model name value
    → IsLocalOfKind model kind (variables.Local token rule number) → IsValueOf model kind (to_z w32 (of_z w32 value))
local_is model name token rule number value kind lawful is of kinds_it =
    kept_is model kind value lawful (of_kind model token rule number value kind (subst (λ n. IsLocalValue model n value) is of) kinds_it)

pub local_value_put : {A E : Type 0} (model : Model) (name : VarName) (token : TokenName) (rule number : ℕ) (value written : ℤ) (kind : ValueKind) (old new : List ℕ) (r : Result A E) → written ≡ value
    → name ≡ variables.Local token rule number → IsLocalOfKind model kind (variables.Local token rule number) → OnOk r (Adds IsPaused (OneValue model kind) written old new)
    → OnOk r ((kind : ValueKind) × (IsLocalOfKind model kind name × Adds IsPaused (OneValue model kind) value old new))
local_value_put model name token rule number value written kind old new (Ok x) same is of adds =
    (kind, (subst (IsLocalOfKind model kind) (sym is) of, subst (λ v. Adds IsPaused (OneValue model kind) v old new) same adds))
local_value_put model name token rule number value written kind old new (Err e) same is of adds = tt

pub local_kept : (model : Model) (line : Line) (name : VarName) (value : ℤ) → IsLawful model → line ≡ lines.Local name value → IsLineOf model line → to_z w32 (of_z w32 value) ≡ value
local_kept model line name value lawful is of = kept model name value lawful (subst (IsLineOf model) is of)
  where
    kept : (model : Model) (name : VarName) (value : ℤ) → IsLawful model → IsLocalValue model name value → to_z w32 (of_z w32 value) ≡ value
    kept model (variables.Global number) value lawful of = absurd of
    kept model (variables.Token token part) value lawful of = absurd of
    kept model (variables.Local token rule number) value lawful (slot, has, (variable, has_local, of)) = kept_value model variable.kind value lawful of
