-- Which arguments a constraint takes that a decision posts.
use Rattle.std.specs.Prelude.{◌≡◌, pos, ⊤, List, [], ◌∷◌, All, Contains}
use Rattle.domain_core.specs.declared.kind.Kind.{Kind}
use Rattle.domain_core.specs.declared.kind.Kind.TheVariants.{Eq, Neq, Lt, Leq, AddEq, MulEq, TestEq, TestLeq}
use Rattle.eu_name.specs.declared.name.VarName.{VarName}
use Rattle.model_core.specs.declared.decision.ConArg.{ConArg}
use Rattle.model_core.specs.declared.decision.ConArg.TheVariants.{Var, Value}
use Rattle.model_core.specs.declared.model.Model.{Model}
use Rattle.model_core.specs.declared.variable.ValueKind.{ValueKind}
use Rattle.model_core.specs.declared.variable.ValueKind.TheVariants as kinds
use Rattle.model_core.specs.Kinds.{IsNumeric, IsValueOf, IsVariableOfKind}

-- the argument is a variable of the kind, or any value
abbrev pub IsOfType : Model → ValueKind → ConArg → Type 0
IsOfType model kind (Var name) = IsVariableOfKind model kind name
IsOfType model kind (Value value) = ⊤

-- the argument is a variable of the kind, or a value of it
abbrev pub IsInType : Model → ValueKind → ConArg → Type 0
IsInType model kind (Var name) = IsVariableOfKind model kind name
IsInType model kind (Value value) = IsValueOf model kind value

-- what is wanted of an argument that is read in a kind
module _ (Suits : ValueKind → ConArg → Type 0) where
  -- one of the compared arguments is a variable, and each suits the kind
  pub record AreCompared (kind : ValueKind) (compared : List ConArg) : Type 0 where
    pub name : VarName
    pub some : Contains compared (Var name)
    pub suit : All (Suits kind) compared

  -- they are compared in some kind
  abbrev pub CanCompare : List ConArg → Type 0
  CanCompare compared = (kind : ValueKind) × AreCompared kind compared

  -- they are compared in a kind of numbers
  abbrev pub CanOrder : List ConArg → Type 0
  CanOrder compared = (kind : ValueKind) × IsNumeric kind × AreCompared kind compared

  -- the constraint has as many arguments, and each suits the kind in which it is read: a truth, which says whether others are
  -- as they are compared; a factor, which is a whole number other than 0; and those that are compared, all in one kind
  abbrev pub Takes : Kind → List ConArg → Type 0
  Takes Eq (one ∷ other ∷ []) = CanCompare (one ∷ other ∷ [])
  Takes Neq (one ∷ other ∷ []) = CanCompare (one ∷ other ∷ [])
  Takes Lt (one ∷ other ∷ []) = CanOrder (one ∷ other ∷ [])
  Takes Leq (one ∷ other ∷ []) = CanOrder (one ∷ other ∷ [])
  Takes AddEq (one ∷ other ∷ sum ∷ []) = CanOrder (one ∷ other ∷ sum ∷ [])
  Takes MulEq (one ∷ Value factor ∷ product ∷ []) =
      CanOrder (one ∷ product ∷ []) × Suits kinds.Int (Value factor) × (factor ≡ pos 0 → ⊥)
  Takes TestEq (truth ∷ one ∷ other ∷ []) = Suits kinds.Bool truth × CanCompare (one ∷ other ∷ [])
  Takes TestLeq (truth ∷ one ∷ other ∷ []) = Suits kinds.Bool truth × CanOrder (one ∷ other ∷ [])
  Takes kind arguments = ⊥
