-- Classes, without the lines that they stand in.
use Rattle.std.specs.Prelude.{◌≡◌, ◌≢◌, ℕ, List, ◌++◌, Option, Some, slice_get, map, All, AllPairs}
use Rattle.eu_name.specs.Word.{IsName}
use Rattle.eu_forest.specs.Lines.{AreParents}
use Rattle.model_core.specs.declared.class.Class.{Class}
use Rattle.model_core.specs.declared.model.Model.{Model}
use Rattle.model_core.specs.declared.variable.VarDecl.{VarDecl}
use Rattle.model_core.specs.Kinds.{IsUnder}
use Rattle.model_core.specs.Lawful.{ExtendsFields, IsLawfulVariable}
use Rattle.model_core.specs.Naming.{names_of}

-- the list goes on behind this front
abbrev pub BeginsWith : List VarDecl → List VarDecl → Type 0
BeginsWith variables front = (own : List VarDecl) × (variables ≡ front ++ own)

-- the class has the fields of the one that it extends, and then its own
abbrev pub Extends : Model → Class → Type 0
Extends model class = (parent : ℕ) → class.parent ≡ Some parent → ExtendsFields model class parent

-- all that is asked of a class but that it is on no circle
pub record HasLawfulMembers (model : Model) (class : Class) : Type 0 where
  pub name : IsName class.name
  pub extends : Extends model class
  pub fields : All (IsLawfulVariable model) class.fields
  pub names : All IsName (names_of class.fields)
  pub distinct : AllPairs ◌≢◌ (names_of class.fields)

-- the class has a name, the fields of the one that it extends, and lawful fields
pub record IsLawfulBeside (model : Model) (class : Class) : Type 0 where
  pub name : IsName class.name
  pub extends : Extends model class
  pub fields : All (IsLawfulVariable model) class.fields

-- what each class extends, by number
abbrev pub parents_of : Model → List (Option ℕ)
parents_of model = map (λ class. class.parent) model.classes

-- each class extends one that there is, and none that is under it
pub record AreInLine (model : Model) : Type 0 where
  pub there : AreParents (parents_of model)
  pub no_circle : (number parent : ℕ) → slice_get (parents_of model) number ≡ Some (Some parent) → IsUnder model parent number → ⊥
