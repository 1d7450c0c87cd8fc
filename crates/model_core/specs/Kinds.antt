-- Of which kind values, parts of tokens and terms are, and which arguments each constraint takes.
use Rattle.std.specs.Prelude.{◌≡◌, ℕ, ◌⊎◌, ℤ, pos, ⊤, List, [], ◌∷◌, Some, slice_get, All}
use Rattle.domain_core.specs.Domain.{Domain, IsRange, IsValue, Has}
use Rattle.eu_name.specs.declared.name.Part.{Part}
use Rattle.eu_name.specs.declared.name.Part.TheVariants as parts
use Rattle.eu_name.specs.declared.name.VarName.{VarName}
use Rattle.eu_name.specs.declared.name.VarName.TheVariants as variables
use Rattle.model_core.specs.declared.class.Class.{Class}
use Rattle.model_core.specs.declared.class.Enum.{Enum}
use Rattle.model_core.specs.declared.class.Object.{Object}
use Rattle.model_core.specs.declared.class.Pred.{Pred}
use Rattle.domain_core.specs.declared.kind.Kind.{Kind}
use Rattle.domain_core.specs.declared.kind.Kind.TheVariants.{Eq, Neq, Lt, Leq, AddEq, MulEq, TestEq, TestLeq, Field}
use Rattle.model_core.specs.declared.item.Term.{Term}
use Rattle.model_core.specs.declared.item.Term.TheVariants as terms
use Rattle.model_core.specs.declared.model.Model.{Model}
use Rattle.model_core.specs.declared.model.Root.{Root}
use Rattle.model_core.specs.declared.rule.Rule.{Rule}
use Rattle.model_core.specs.declared.rule.Slot.{Slot}
use Rattle.model_core.specs.declared.variable.Base.{Base}
use Rattle.model_core.specs.declared.variable.Base.TheVariants.{Given, Void}
use Rattle.model_core.specs.declared.variable.ValueKind.{ValueKind}
use Rattle.model_core.specs.declared.variable.ValueKind.TheVariants as kinds
use Rattle.model_core.specs.declared.variable.VarDecl.{VarDecl}
use Rattle.model_core.specs.Tokens.{IsRoot, HasToken}
use Rattle.model_core.specs.Variables.{IsGlobal, HasParameter, HasLocal}

-- the class of the first number extends that of the second
abbrev pub IsParentClass : Model → ℕ → ℕ → Type 0
IsParentClass model class parent =
    (found : Class) × (slice_get model.classes class ≡ Some found) × (found.parent ≡ Some parent)

-- the classes lead up to the ancestor, each extending the next
abbrev pub Climbs : Model → ℕ → List ℕ → ℕ → Type 0
Climbs model class [] ancestor = ancestor ≡ class
Climbs model class (parent ∷ path) ancestor = IsParentClass model class parent × Climbs model parent path ancestor

-- the class is the other one, or extends it at once or over others
abbrev pub IsUnder : Model → ℕ → ℕ → Type 0
IsUnder model class ancestor = (path : List ℕ) × Climbs model class path ancestor

-- the value is the number of this object
abbrev pub IsObject : Model → ℤ → Object → Type 0
IsObject model value object = (number : ℕ) × (value ≡ pos number) × (slice_get model.objects number ≡ Some object)

-- the value is an object of the class, or of one under it
abbrev pub IsObjectOf : Model → ℕ → ℤ → Type 0
IsObjectOf model class value = (object : Object) × IsObject model value object × IsUnder model object.class class

-- all that the base has are objects of the class
abbrev pub AreObjectsOf : Model → ℕ → Base → Type 0
AreObjectsOf model class (Given domain) = (value : ℤ) → Has domain value → IsObjectOf model class value
AreObjectsOf model class Void = ⊤

-- the model has the kind
abbrev pub IsKind : Model → ValueKind → Type 0
IsKind model (kinds.Enum number) = (found : Enum) × (slice_get model.enums number ≡ Some found)
IsKind model kind = ⊤

-- the value is the place of a member of the enum
pub record IsMemberOf (model : Model) (number : ℕ) (value : ℤ) : Type 0 where
  pub found : Enum
  pub is_enum : slice_get model.enums number ≡ Some found
  pub place : ℕ
  pub is_place : value ≡ pos place
  pub member : List ℕ
  pub is_member : slice_get found.members place ≡ Some member

-- the value is of the kind: any value, also as thousandths, a truth, the place of a member, or the number of an object
abbrev pub IsValueOf : Model → ValueKind → ℤ → Type 0
IsValueOf model kinds.Int value = IsValue value
IsValueOf model kinds.Float value = IsValue value
IsValueOf model kinds.Bool value = (value ≡ pos 0) ⊎ (value ≡ pos 1)
IsValueOf model (kinds.Enum number) value = IsMemberOf model number value
IsValueOf model kinds.Object value = (object : Object) × IsObject model value object

-- the kind is one of numbers: whole numbers, or decimals
abbrev pub IsNumeric : ValueKind → Type 0
IsNumeric kinds.Int = ⊤
IsNumeric kinds.Float = ⊤
IsNumeric kind = ⊥

-- the domain lies in the kind: its values are of it, and only numbers have ranges
pub record IsInKind (model : Model) (kind : ValueKind) (domain : Domain) : Type 0 where
  pub values : (value : ℤ) → Has domain value → IsValueOf model kind value
  pub range : IsRange domain → IsNumeric kind

-- the base is a domain that lies in the kind, or void, as only that of objects may be
abbrev pub IsBaseOf : Model → ValueKind → Base → Type 0
IsBaseOf model kind (Given domain) = IsInKind model kind domain
IsBaseOf model kind Void = kind ≡ kinds.Object

-- the part of a token of this predicate is of the kind
abbrev pub IsPartOfKind : Model → ℕ → ValueKind → Part → Type 0
IsPartOfKind model pred kind parts.Object = kind ≡ kinds.Object
IsPartOfKind model pred kind (parts.Param number) =
    (variable : VarDecl) × HasParameter model pred number variable × (kind ≡ variable.kind)
IsPartOfKind model pred kind part = kind ≡ kinds.Int

-- the variable is of this kind
abbrev pub IsVariableOfKind : Model → ValueKind → VarName → Type 0
IsVariableOfKind model kind (variables.Global number) =
    (variable : VarDecl) × (IsGlobal model number variable × (kind ≡ variable.kind))
IsVariableOfKind model kind (variables.Token token part) =
    (slot : Slot) × (HasToken model token slot × IsPartOfKind model slot.pred kind part)
IsVariableOfKind model kind (variables.Local token rule number) =
    (slot : Slot) × (HasToken model token slot
    × ((variable : VarDecl) × (HasLocal model slot rule number variable × (kind ≡ variable.kind))))

-- where a constraint stands: in the problem, or in a rule of the predicate of this number
pub data Scope : Type 0 where
  OfProblem : Scope
  OfRule : ℕ → Rule → Scope

-- the term names something of a rule or of its token
abbrev pub IsInner : Term → Type 0
IsInner (terms.Here part) = ⊤
IsInner (terms.Slot number part) = ⊤
IsInner (terms.Local number) = ⊤
IsInner term = ⊥

-- the term may be named there, and is of the kind; in the problem only values, globals and parts of roots may
abbrev pub IsOfKind : Model → Scope → ValueKind → Term → Type 0
IsOfKind model scope kind (terms.Lit value) = IsValueOf model kind value
IsOfKind model scope kind (terms.Global number) = (variable : VarDecl) × IsGlobal model number variable × (kind ≡ variable.kind)
IsOfKind model scope kind (terms.Root number part) =
    (root : Root) × IsRoot model number root × IsPartOfKind model root.pred kind part
IsOfKind model (OfRule pred rule) kind (terms.Here part) = IsPartOfKind model pred kind part
IsOfKind model (OfRule pred rule) kind (terms.Slot number part) =
    (slot : Slot) × (slice_get rule.slots number ≡ Some slot) × IsPartOfKind model slot.pred kind part
IsOfKind model (OfRule pred rule) kind (terms.Local number) =
    (variable : VarDecl) × (slice_get rule.locals number ≡ Some variable) × (kind ≡ variable.kind)
IsOfKind model OfProblem kind term = ⊥

-- all of them are of this kind
abbrev pub AreOfKind : Model → Scope → ValueKind → List Term → Type 0
AreOfKind model scope kind compared = All (IsOfKind model scope kind) compared

-- they are all of one kind, so they can be compared
abbrev pub AreComparable : Model → Scope → List Term → Type 0
AreComparable model scope compared = (kind : ValueKind) × AreOfKind model scope kind compared

-- they are all of one kind of numbers, so they can be added and put in order
abbrev pub AreNumbers : Model → Scope → List Term → Type 0
AreNumbers model scope compared = (kind : ValueKind) × IsNumeric kind × AreOfKind model scope kind compared

-- whatever the part of a token of the predicate is, it is an object of the class
abbrev pub IsPartOfClass : Model → ℕ → ℕ → Part → Type 0
IsPartOfClass model pred class parts.Object =
    (found : Pred) × (slice_get model.preds pred ≡ Some found) × IsUnder model found.class class
IsPartOfClass model pred class (parts.Param number) =
    (variable : VarDecl) × HasParameter model pred number variable × AreObjectsOf model class variable.base
IsPartOfClass model pred class part = ⊥

-- whatever the term stands for there, it is an object of the class
abbrev pub IsOfClass : Model → Scope → ℕ → Term → Type 0
IsOfClass model scope class (terms.Lit value) = IsObjectOf model class value
IsOfClass model scope class (terms.Global number) =
    (variable : VarDecl) × IsGlobal model number variable × AreObjectsOf model class variable.base
IsOfClass model scope class (terms.Root number part) =
    (root : Root) × IsRoot model number root × IsPartOfClass model root.pred class part
IsOfClass model (OfRule pred rule) class (terms.Here part) = IsPartOfClass model pred class part
IsOfClass model (OfRule pred rule) class (terms.Slot number part) =
    (slot : Slot) × (slice_get rule.slots number ≡ Some slot) × IsPartOfClass model slot.pred class part
IsOfClass model (OfRule pred rule) class (terms.Local number) =
    (variable : VarDecl) × (slice_get rule.locals number ≡ Some variable) × AreObjectsOf model class variable.base
IsOfClass model OfProblem class term = ⊥

-- the first term is an object of a class that has the field of this number, and the second is of the field's kind
pub record AccessesField (model : Model) (scope : Scope) (number : ℕ) (object value : Term) : Type 0 where
  pub class : ℕ
  pub found : Class
  pub is_class : slice_get model.classes class ≡ Some found
  pub variable : VarDecl
  pub declared : slice_get found.fields number ≡ Some variable
  pub of_kind : IsOfKind model scope kinds.Object object
  pub of_class : IsOfClass model scope class object
  pub value_kind : IsOfKind model scope variable.kind value

-- the terms may be the arguments of the constraint: of one kind where they are compared, numbers where they are added or
-- ordered; a factor is a whole number other than 0
abbrev pub AreArguments : Model → Scope → Kind → List Term → Type 0
AreArguments model scope Eq arguments = AreComparable model scope arguments
AreArguments model scope Neq arguments = AreComparable model scope arguments
AreArguments model scope Lt arguments = AreNumbers model scope arguments
AreArguments model scope Leq arguments = AreNumbers model scope arguments
AreArguments model scope AddEq arguments = AreNumbers model scope arguments
AreArguments model scope MulEq (first ∷ terms.Lit factor ∷ product ∷ []) =
    AreNumbers model scope (first ∷ product ∷ []) × IsValue factor × (factor ≡ pos 0 → ⊥)
AreArguments model scope TestEq (truth ∷ compared) =
    IsOfKind model scope kinds.Bool truth × AreComparable model scope compared
AreArguments model scope TestLeq (truth ∷ compared) =
    IsOfKind model scope kinds.Bool truth × AreNumbers model scope compared
AreArguments model scope (Field number) (object ∷ value ∷ []) = AccessesField model scope number object value
AreArguments model scope kind arguments = ⊥
