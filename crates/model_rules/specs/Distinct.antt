-- Lists in which each thing stands once.
use Rattle.std.specs.Prelude.{◌≡◌, ◌≢◌, ◌↔◌, ◌⊎◌, ℕ, Bool, true, false, List, [], ◌∷◌, ◌++◌, Some, slice_get, All, AllPairs, Contains}
use Rattle.model_core.specs.declared.class.Class.{Class}
use Rattle.model_core.specs.declared.class.Pred.{Pred}
use Rattle.model_core.specs.declared.variable.VarDecl.{VarDecl}
use Rattle.model_core.specs.Naming.{names_of}

-- the thing is put behind the others, unless it is among them; whether it isn't
abbrev pub AddsNew : {K : Type 0} → List K → K → Bool → List K → Type 0
AddsNew old key true new = (Contains old key → ⊥) × (new ≡ old ++ key ∷ [])
AddsNew old key false new = Contains old key × (new ≡ old)

-- all are put behind those that are there, and none stands twice; or one does
abbrev pub AddsAll : {K : Type 0} → List K → List K → Bool → List K → Type 0
AddsAll old more true new = (new ≡ old ++ more) × AllPairs ◌≢◌ new
AddsAll old more false new = AllPairs ◌≢◌ (old ++ more) → ⊥

-- predicates of one class have names that differ
abbrev pub AreApart : List Pred → Type 0
AreApart preds = AllPairs (λ one other. one.class ≡ other.class → one.name ≢ other.name) preds

-- the class of this number has a field of the name
abbrev pub HasFieldNamed : List Class → ℕ → List ℕ → Type 0
HasFieldNamed classes class name =
    (found : Class) × (slice_get classes class ≡ Some found) × Contains (names_of found.fields) name

-- no predicate has the name of a field of its class
abbrev pub AreFree : List Class → List Pred → Type 0
AreFree classes preds = All (λ pred. HasFieldNamed classes pred.class pred.name → ⊥) preds

-- a predicate, or a field of a class, by the class's number and its name
abbrev pub pred_key : Pred → ℕ × List ℕ
pred_key pred = (pred.class, pred.name)

-- a field of the class of this number
abbrev pub field_key : ℕ → VarDecl → ℕ × List ℕ
field_key class field = (class, field.name)

-- these came to what was there, and each stands once
pub record HasMore {K : Type 0} (old more new : List K) : Type 0 where
  pub apart : AllPairs ◌≢◌ new
  pub has : (key : K) → Contains new key ↔ (Contains old key ⊎ Contains more key)

-- the list has the fields of the classes, each once
pub record HasFields (classes : List Class) (keys : List (ℕ × List ℕ)) : Type 0 where
  pub apart : AllPairs ◌≢◌ keys
  pub has : (class : ℕ) (name : List ℕ) → Contains keys (class, name) ↔ HasFieldNamed classes class name
