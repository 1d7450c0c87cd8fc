-- What variables are declared with, by kind.
use Rattle.std.proofs.Common.{◌≡◌, ℕ, ℤ, List, [], ◌∷◌, Some, slice_get, sym, ap, ◌∙◌, subst}
use Rattle.domain_core.specs.Domain.{Domain, Has, IsDomain}
use Rattle.domain_core.proofs.Words.{has_value}
use Rattle.eu_name.specs.declared.name.Part.{Part}
use Rattle.eu_name.specs.declared.name.Part.TheVariants.{Start, End, Duration, Object, Param}
use Rattle.eu_name.specs.declared.name.Step.{Step}
use Rattle.eu_name.specs.declared.name.TokenName.{TokenName}
use Rattle.eu_name.specs.declared.name.VarName.{VarName}
use Rattle.eu_name.specs.declared.name.VarName.TheVariants as variables
use Rattle.eu_name.proofs.Members.{get_all, get_same}
use Rattle.model_core.specs.declared.class.Pred.{Pred}
use Rattle.model_core.specs.declared.model.Model.{Model}
use Rattle.model_core.specs.declared.rule.Rule.{Rule}
use Rattle.model_core.specs.declared.rule.Slot.{Slot}
use Rattle.model_core.specs.declared.variable.Base.{Base}
use Rattle.model_core.specs.declared.variable.Base.TheVariants.{Given, Void}
use Rattle.model_core.specs.declared.variable.ValueKind.{ValueKind}
use Rattle.model_core.specs.declared.variable.ValueKind.TheVariants as kinds
use Rattle.model_core.specs.declared.variable.VarDecl.{VarDecl}
use Rattle.model_core.specs.Kinds.{IsValueOf, IsBaseOf, IsPartOfKind, IsVariableOfKind}
use Rattle.model_core.specs.Lawful.{IsLawful, IsLawfulRoot, IsLawfulSlot, IsLawfulVariable}
use Rattle.model_core.specs.Tokens.{HasToken, Reaches, LeadsToSlot, slot_of}
use Rattle.model_core.specs.Variables.{HasBase, HasPartBase, HasParameter, HasLocal, IsInBase}
use Rattle.model_core.proofs.Leading.{token_once}
use Rattle.model_core.proofs.Rules.{has_rule_once}
use Rattle.model_core.proofs.Lawful.{rule_lawful, base_lawful}

-- ---- what is declared is of the kind

module _ (model : Model) where
  int_base : (domain : Domain) → IsDomain domain → IsBaseOf model kinds.Int (Given domain)
  int_base domain is = record { values = λ value has. has_value domain value is has; range = λ range. tt }

  of_variable : (one other : VarDecl) (kind : ValueKind) (base : Base) → one ≡ other → base ≡ one.base → kind ≡ other.kind → IsLawfulVariable model one → IsBaseOf model kind base
  of_variable one other kind base same is_base is_kind fine =
      subst (λ (b : Base). IsBaseOf model kind b) (sym is_base) (subst (λ (k : ValueKind). IsBaseOf model k one.base) (ap (λ (v : VarDecl). v.kind) same ∙ sym is_kind) fine.inside)

  parameter_same : (pred number : ℕ) (one other : VarDecl) → HasParameter model pred number one → HasParameter model pred number other → one ≡ other
  parameter_same pred number one other p q =
      let preds = get_same model.preds pred p.predicate q.predicate p.is_predicate q.is_predicate in
      get_same p.predicate.params number one other p.declared (subst (λ (found : Pred). slice_get found.params number ≡ Some other) (sym preds) q.declared)

  local_same : (slot : Slot) (rule number : ℕ) (one other : VarDecl) → HasLocal model slot rule number one → HasLocal model slot rule number other → one ≡ other
  local_same slot rule number one other p q =
      let rules = has_rule_once model slot.pred rule p.found q.found p.has_rule q.has_rule in
      get_same p.found.locals number one other p.declared (subst (λ (found : Rule). slice_get found.locals number ≡ Some other) (sym rules) q.declared)

module _ (model : Model) (lawful : IsLawful model) where
  slot_inside : (pred : ℕ) (step : Step) (slot : Slot) → LeadsToSlot model pred step slot → IsBaseOf model kinds.Object slot.object
  slot_inside pred step slot leads =
      (get_all (IsLawfulSlot model) leads.rule.slots step.slot slot (rule_lawful model lawful pred step.rule leads.rule leads.has_rule).slots leads.is_slot).inside

  reached_inside : (slot reached : Slot) (steps : List Step) → IsBaseOf model kinds.Object slot.object → Reaches model slot steps reached → IsBaseOf model kinds.Object reached.object
  reached_inside slot reached [] is same = subst (λ (s : Slot). IsBaseOf model kinds.Object s.object) (sym same) is
  reached_inside slot reached (step ∷ steps) is (next, leads, rest) = reached_inside next reached steps (slot_inside slot.pred step next leads) rest

  token_inside : (token : TokenName) (slot : Slot) → HasToken model token slot → IsBaseOf model kinds.Object slot.object
  token_inside token slot has =
      reached_inside (slot_of has.root) slot token.steps (get_all (IsLawfulRoot model) model.problem.roots token.root has.root lawful.roots has.is_root).inside has.reached

  given_int : (name : VarName) (base : Base) (domain : Domain) → HasBase model name base → base ≡ Given domain → IsBaseOf model kinds.Int base
  given_int name base domain has is =
      subst (λ (b : Base). IsBaseOf model kinds.Int b) (sym is) (int_base model domain (base_lawful model lawful name domain (subst (λ (b : Base). HasBase model name b) is has)))

  part_inside : (token : TokenName) (slot : Slot) (part : Part) (base : Base) (kind : ValueKind) → HasToken model token slot → HasPartBase model slot part base → IsPartOfKind model slot.pred kind part → IsBaseOf model kind base
  part_inside token slot Start base kind has is of = subst (λ (k : ValueKind). IsBaseOf model k base) (sym of) (given_int (variables.Token token Start) base _ (slot, has, is) is)
  part_inside token slot End base kind has is of = subst (λ (k : ValueKind). IsBaseOf model k base) (sym of) (given_int (variables.Token token End) base _ (slot, has, is) is)
  part_inside token slot Duration base kind has is of = subst (λ (k : ValueKind). IsBaseOf model k base) (sym of) (given_int (variables.Token token Duration) base _ (slot, has, is) is)
  part_inside token slot Object base kind has is of =
      subst (λ (k : ValueKind). IsBaseOf model k base) (sym of) (subst (λ (b : Base). IsBaseOf model kinds.Object b) (sym is) (token_inside token slot has))
  part_inside token slot (Param number) base kind has (one, declared, is) (other, known, of) =
      of_variable model one other kind base (parameter_same model slot.pred number one other declared known) is of
      (get_all (IsLawfulVariable model) declared.predicate.params number one (lawful.preds slot.pred declared.predicate declared.is_predicate).params declared.declared)

  -- what a variable of the kind is declared with is of the kind
  pub base_inside : (name : VarName) (base : Base) (kind : ValueKind) → HasBase model name base → IsVariableOfKind model kind name → IsBaseOf model kind base
  base_inside (variables.Global number) base kind (one, declared, is) (other, (known, of)) =
      of_variable model one other kind base (get_same model.problem.globals number one other declared known) is of
      (get_all (IsLawfulVariable model) model.problem.globals number one lawful.globals declared)
  base_inside (variables.Token token part) base kind (slot, has, is) (found, (known, of)) =
      part_inside token slot part base kind has is (subst (λ (s : Slot). IsPartOfKind model s.pred kind part) (sym (token_once model token slot found has known)) of)
  base_inside (variables.Local token rule number) base kind has (found, (known, (other, (known_local, of)))) =
      let one = token_once model token has.slot found has.has_token known in
      of_variable model has.variable other kind base
      (local_same model has.slot rule number has.variable other has.has_local (subst (λ (s : Slot). HasLocal model s rule number other) (sym one) known_local)) has.is_base of
      (get_all (IsLawfulVariable model) has.has_local.found.locals number has.variable (rule_lawful model lawful has.slot.pred rule has.has_local.found has.has_local.has_rule).locals has.has_local.declared)

  in_kind : (kind : ValueKind) (base : Base) (domain : Domain) → IsBaseOf model kind base → IsInBase domain base → (value : ℤ) → Has domain value → IsValueOf model kind value
  in_kind kind (Given outer) domain of inside value has = of.values value (inside.values value has)
  in_kind kind Void domain of inside value has = absurd inside

  -- the values of a domain in the base are of the variable's kind
  pub values_of_kind : (name : VarName) (domain : Domain) (kind : ValueKind) → (base : Base) × HasBase model name base × IsInBase domain base → IsVariableOfKind model kind name
      → (value : ℤ) → Has domain value → IsValueOf model kind value
  values_of_kind name domain kind (base, has, inside) of = in_kind kind base domain (base_inside name base kind has of) inside

  -- so is a value that it is declared with
  pub declared_of_kind : (name : VarName) (kind : ValueKind) (value : ℤ) → (base : Domain) × HasBase model name (Given base) × Has base value → IsVariableOfKind model kind name → IsValueOf model kind value
  declared_of_kind name kind value (base, declared, has) of =
      let inside : IsBaseOf model kind (Given base) = base_inside name (Given base) kind declared of in
      inside.values value has
