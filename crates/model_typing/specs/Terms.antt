-- Terms and their kinds and classes, as they are found out.
use Rattle.std.specs.Prelude.{◌≡◌, ◌↔◌, ℕ, pos, ⊤, Option, Some, slice_get}
use Rattle.domain_core.specs.Domain.{IsValue}
use Rattle.eu_name.specs.declared.name.Part.{Part}
use Rattle.model_core.specs.declared.class.Class.{Class}
use Rattle.model_core.specs.declared.item.Term.{Term}
use Rattle.model_core.specs.declared.item.Term.TheVariants as terms
use Rattle.model_core.specs.declared.model.Model.{Model}
use Rattle.model_core.specs.declared.rule.Slot.{Slot}
use Rattle.model_core.specs.declared.variable.ValueKind.{ValueKind}
use Rattle.model_core.specs.declared.variable.ValueKind.TheVariants as kinds
use Rattle.model_core.specs.declared.variable.VarDecl.{VarDecl}
use Rattle.model_core.specs.Kinds.{Scope, OfProblem, OfRule, IsOfClass, IsOfKind, IsPartOfClass, IsPartOfKind}
use Rattle.model_typing.specs.declared.scope.TermScope.{TermScope}
use Rattle.model_typing.specs.declared.scope.TermScope.TheVariants as scopes
use Rattle.model_typing.specs.declared.line.Line.{Line}
use Rattle.model_typing.specs.Lines.{AreLinesOf, IsLine, IsOnLine}

-- the scope, without what is found of it
abbrev pub scope_of : TermScope → Scope
scope_of scopes.InProblem = OfProblem
scope_of (scopes.InRule pred rule locals) = OfRule pred rule.now

-- the scope, if it is a rule, has the lines of the rule's locals
abbrev pub HasLocalLines : Model → TermScope → Type 0
HasLocalLines model scopes.InProblem = ⊤
HasLocalLines model (scopes.InRule pred rule locals) = AreLinesOf model rule.now.locals locals.now

-- the term isn't a value as it is written
abbrev pub IsNamed : Term → Type 0
IsNamed (terms.Lit value) = ⊥
IsNamed term = ⊤

-- what is found is the one that is so, or there is none
abbrev pub IsJust : Option ValueKind → (ValueKind → Type 0) → Type 0
IsJust found IsSo = (kind : ValueKind) → IsSo kind ↔ (found ≡ Some kind)

-- the class of this number has the field
abbrev pub HasField : Model → ℕ → ℕ → VarDecl → Type 0
HasField model class number variable =
    (found : Class) × (slice_get model.classes class ≡ Some found) × (slice_get found.fields number ≡ Some variable)

-- the class of this number has the field of this number, and the term is of the field's kind
pub record FieldFits (model : Model) (scope : Scope) (class number : ℕ) (value : Term) : Type 0 where
  pub variable : VarDecl
  pub has_field : HasField model class number variable
  pub value_kind : IsOfKind model scope variable.kind value

-- it is so of a class of the line
abbrev pub FitsOnLine : Model → Scope → Line → ℕ → Term → Type 0
FitsOnLine model scope line number value = (class : ℕ) × IsOnLine model line class × FieldFits model scope class number value

-- where the part of a token of the predicate is an object, the line has the classes of which it is one
abbrev pub IsPartLine : Model → ℕ → Part → Line → Type 0
IsPartLine model pred part line =
    IsPartOfKind model pred kinds.Object part → IsLine model line (λ class. IsPartOfClass model pred class part)

-- the same of a term
abbrev pub IsTermLine : Model → Scope → Term → Line → Type 0
IsTermLine model scope term line = IsOfKind model scope kinds.Object term → IsLine model line (λ class. IsOfClass model scope class term)

-- the term is a whole number other than 0 as it is written
abbrev pub IsFactor : Term → Type 0
IsFactor (terms.Lit value) = IsValue value × (value ≡ pos 0 → ⊥)
IsFactor term = ⊥

-- the scope is a rule that has the slot of this number
abbrev pub HasSlot : Scope → ℕ → Type 0
HasSlot OfProblem number = ⊥
HasSlot (OfRule pred rule) number = (slot : Slot) × (slice_get rule.slots number ≡ Some slot)
