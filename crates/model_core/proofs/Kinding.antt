-- A variable that there is has one kind.
use Rattle.std.proofs.Common.{◌≡◌, ℕ, Some, slice_get, refl, sym, ◌∙◌, ap, subst}
use Rattle.eu_name.specs.declared.name.Part.{Part}
use Rattle.eu_name.specs.declared.name.Part.TheVariants.{Start, End, Duration, Object, Param}
use Rattle.eu_name.specs.declared.name.TokenName.{TokenName}
use Rattle.eu_name.specs.declared.name.VarName.{VarName}
use Rattle.eu_name.specs.declared.name.VarName.TheVariants as variables
use Rattle.model_core.specs.declared.model.Model.{Model}
use Rattle.model_core.specs.declared.rule.Rule.{Rule}
use Rattle.model_core.specs.declared.rule.Slot.{Slot}
use Rattle.model_core.specs.declared.variable.Base.{Base}
use Rattle.model_core.specs.declared.variable.ValueKind.{ValueKind}
use Rattle.model_core.specs.declared.variable.ValueKind.TheVariants as kinds
use Rattle.model_core.specs.declared.variable.VarDecl.{VarDecl}
use Rattle.model_core.specs.Kinds.{IsPartOfKind, IsVariableOfKind}
use Rattle.model_core.specs.Tokens.{HasToken}
use Rattle.model_core.specs.Variables.{HasBase, HasPartBase, HasLocal, IsGlobal}
use Rattle.model_core.proofs.Leading.{token_once}
use Rattle.model_core.proofs.Rules.{has_rule_once}

-- ---- what is there of a variable that has a base

pub global_there : (model : Model) (name : VarName) (number : ℕ) → name ≡ variables.Global number → (base : Base) × HasBase model name base → (variable : VarDecl) × IsGlobal model number variable
global_there model name number is there =
    let here : (base : Base) × HasBase model (variables.Global number) base = subst (λ (n : VarName). (base : Base) × HasBase model n base) is there in
    (here.1.0, here.1.1)

pub token_there : (model : Model) (name : VarName) (token : TokenName) (part : Part) → name ≡ variables.Token token part → (base : Base) × HasBase model name base → (slot : Slot) × HasToken model token slot
token_there model name token part is there =
    let here : (base : Base) × HasBase model (variables.Token token part) base = subst (λ (n : VarName). (base : Base) × HasBase model n base) is there in
    (here.1.0, here.1.1)

-- ---- parts of tokens

part_there : (model : Model) (slot : Slot) (part : Part) (base : Base) → HasPartBase model slot part base → (kind : ValueKind) × IsPartOfKind model slot.pred kind part
part_there model slot Start base is = (kinds.Int, refl)
part_there model slot End base is = (kinds.Int, refl)
part_there model slot Duration base is = (kinds.Int, refl)
part_there model slot Object base is = (kinds.Object, refl)
part_there model slot (Param number) base (variable, has, is) = (variable.kind, (variable, has, refl))

module _ (model : Model) (token : TokenName) (part : Part) (pred : ℕ) (there : (base : Base) × HasBase model (variables.Token token part) base)
    (preds : (slot : Slot) → HasToken model token slot → slot.pred ≡ pred) where
  pub part_has_kind : (kind : ValueKind) × IsPartOfKind model pred kind part
  part_has_kind =
      let slot : Slot = there.1.0 in
      subst (λ (n : ℕ). (kind : ValueKind) × IsPartOfKind model n kind part) (preds slot there.1.1) (part_there model slot part there.0 there.1.2)

  pub part_variable_kind : (kind : ValueKind) → IsPartOfKind model pred kind part → IsVariableOfKind model kind (variables.Token token part)
  part_variable_kind kind of =
      let slot : Slot = there.1.0 in
      (slot, (there.1.1, subst (λ (n : ℕ). IsPartOfKind model n kind part) (sym (preds slot there.1.1)) of))

part_kind_once : (model : Model) (pred : ℕ) (part : Part) (one other : ValueKind) → IsPartOfKind model pred one part → IsPartOfKind model pred other part → one ≡ other
part_kind_once model pred Start one other is is' = is ∙ sym is'
part_kind_once model pred End one other is is' = is ∙ sym is'
part_kind_once model pred Duration one other is is' = is ∙ sym is'
part_kind_once model pred Object one other is is' = is ∙ sym is'
part_kind_once model pred (Param number) one other (variable, has, kind) (variable', has', kind') =
    let preds : has.predicate ≡ has'.predicate = cc in
    let both : Some variable ≡ Some variable' = sym has.declared ∙ (ap (λ p. slice_get p.params number) preds ∙ has'.declared) in
    let same : variable ≡ variable' = cc in
    kind ∙ (ap (λ (v : VarDecl). v.kind) same ∙ sym kind')

-- ---- variables

pub kind_once : (model : Model) (name : VarName) (one other : ValueKind) → IsVariableOfKind model one name → IsVariableOfKind model other name → one ≡ other
kind_once model (variables.Global number) one other (variable, (is, kind)) (variable', (is', kind')) =
    let both : Some variable ≡ Some variable' = sym is ∙ is' in
    let same : variable ≡ variable' = cc in
    kind ∙ (ap (λ (v : VarDecl). v.kind) same ∙ sym kind')
kind_once model (variables.Token token part) one other (slot, (has, of)) (slot', (has', of')) =
    let same = token_once model token slot slot' has has' in
    part_kind_once model slot.pred part one other of (subst (λ (s : Slot). IsPartOfKind model s.pred other part) (sym same) of')
kind_once model (variables.Local token rule number) one other (slot, (has, (variable, (is, kind)))) (slot', (has', (variable', (is', kind')))) =
    let same = token_once model token slot slot' has has' in
    let here : HasLocal model slot rule number variable' = subst (λ (s : Slot). HasLocal model s rule number variable') (sym same) is' in
    let rules = has_rule_once model slot.pred rule is.found here.found is.has_rule here.has_rule in
    let both : Some variable ≡ Some variable' = sym is.declared ∙ (ap (λ (r : Rule). slice_get r.locals number) rules ∙ here.declared) in
    let locals : variable ≡ variable' = cc in
    kind ∙ (ap (λ (v : VarDecl). v.kind) locals ∙ sym kind')
