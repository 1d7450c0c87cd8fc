-- Whether a constraint takes its arguments.
use Rattle.std.proofs.Common.{◌≡◌, true, false, Bool, ⊎_elim, List, [], ◌∷◌, Option, Some, None, sym, subst}
use Rattle.std.specs.Prelude.{All, Contains, ◌↔◌, IsTrue}
use Rattle.std.proofs.lemmas.List.Elements.{All-nil, All-cons, All-head, All-tail, All-contains}
use Rattle.eu_name.proofs.Ordered.{contains_head, contains_later, contains_cases, contains_none}
use Rattle.eu_name.specs.declared.name.VarName.{VarName}
use Rattle.model_core.specs.declared.decision.ConArg.{ConArg}
use Rattle.model_core.specs.declared.decision.ConArg.TheVariants.{Var}
use Rattle.model_core.specs.declared.model.Model.{Model}
use Rattle.model_core.specs.declared.variable.ValueKind.{ValueKind}
use Rattle.model_core.specs.Arguments.{AreCompared, CanCompare, CanOrder}
use Rattle.model_core.specs.Kinds.{IsNumeric, IsVariableOfKind}
use Rattle.model_core.proofs.Kinding.{kind_once}
use Rattle.db_refusals.specs.declared.arguments.Reading.{Reading}
use Rattle.db_refusals.specs.declared.arguments.Reading.TheVariants.{Types, Values}
use Rattle.db_refusals.specs.Typing.{Suits, FindsKind}

-- ---- one argument

-- a variable suits just its kind, however it is read
pub variable_suits : (model : Model) (reading : Reading) (kind : ValueKind) (name : VarName) → Suits model reading kind (Var name) ↔ IsVariableOfKind model kind name
variable_suits model Types kind name = (λ is. is, λ is. is)
variable_suits model Values kind name = (λ is. is, λ is. is)

-- so it suits a kind where its kind is this one
pub suits_as : (model : Model) (reading : Reading) (kind found : ValueKind) (name : VarName) (answer : Bool) → IsVariableOfKind model found name → (IsTrue answer ↔ (kind ≡ found))
    → (IsTrue answer ↔ Suits model reading kind (Var name))
suits_as model reading kind found name answer of told = (
  λ same. (variable_suits model reading kind name).1 (subst (λ (k : ValueKind). IsVariableOfKind model k name) (sym (told.0 same)) of),
  λ suits. told.1 (kind_once model name kind found ((variable_suits model reading kind name).0 suits) of),
)

-- ---- all of them

module _ (P : ConArg → Type 0) (argument : ConArg) (rest : List ConArg) where
  pub more_suit : (answer : Bool) → P argument → (IsTrue answer ↔ All P rest) → (IsTrue answer ↔ All P (argument ∷ rest))
  more_suit answer first told = (
    λ yes. All-cons P argument rest first (told.0 yes),
    λ all. told.1 (All-tail P argument rest all),
  )

  pub none_suit : (answer : Bool) → answer ≡ false → (IsTrue answer ↔ P argument) → (IsTrue answer ↔ All P (argument ∷ rest))
  none_suit answer not told = (
    λ yes. absurd (let is : answer ≡ true = yes in cc),
    λ all. told.1 (All-head P argument rest all),
  )

pub last_suits : (P : ConArg → Type 0) (argument : ConArg) (answer : Bool) → (IsTrue answer ↔ P argument) → (IsTrue answer ↔ All P (argument ∷ []))
last_suits P argument answer told = (
  λ yes. All-cons P argument [] (told.0 yes) (All-nil P),
  λ all. told.1 (All-head P argument [] all),
)

-- ---- the kind of one of them

pub finds_none : (model : Model) (argument : ConArg) (rest : List ConArg) (found : Option ValueKind) → FindsKind model (argument ∷ []) None → FindsKind model rest found
    → FindsKind model (argument ∷ rest) found
finds_none model argument rest None first later = λ name there. ⊎_elim
    (λ (same : argument ≡ Var name). first name (subst (Contains (argument ∷ [])) same (contains_head argument [])))
    (λ (more : Contains rest (Var name)). later name more)
    (contains_cases argument (Var name) rest there)
finds_none model argument rest (Some kind) first (name, there, of) = (name, contains_later argument (Var name) rest there, of)

pub finds_first : (model : Model) (argument : ConArg) (rest : List ConArg) (kind : ValueKind) → FindsKind model (argument ∷ []) (Some kind) → FindsKind model (argument ∷ rest) (Some kind)
finds_first model argument rest kind (name, there, of) = ⊎_elim
    (λ (same : argument ≡ Var name). (name, subst (Contains (argument ∷ rest)) same (contains_head argument rest), of))
    (λ (none : Contains [] (Var name)). absurd (contains_none (Var name) none))
    (contains_cases argument (Var name) [] there)

-- ---- those that are compared

module _ (model : Model) (reading : Reading) (compared : List ConArg) where
  -- in whatever kind they are compared, it is that of each variable
  compared_in : (kind other : ValueKind) → FindsKind model compared (Some kind) → AreCompared (Suits model reading) other compared → other ≡ kind
  compared_in kind other (name, there, of) are =
      kind_once model name other kind
      ((variable_suits model reading other name).0 (All-contains (Suits model reading other) compared (Var name) are.suit there)) of

  are_compared : (kind : ValueKind) → FindsKind model compared (Some kind) → All (Suits model reading kind) compared → AreCompared (Suits model reading) kind compared
  are_compared kind (name, there, of) suit = record { name = name; some = there; suit = suit }

  suit_as : (kind other : ValueKind) → FindsKind model compared (Some kind) → AreCompared (Suits model reading) other compared → All (Suits model reading kind) compared
  suit_as kind other finds are = subst (λ (k : ValueKind). All (Suits model reading k) compared) (compared_in kind other finds are) are.suit

  pub compare_as : (kind : ValueKind) (answer : Bool) → FindsKind model compared (Some kind) → (IsTrue answer ↔ All (Suits model reading kind) compared)
      → (IsTrue answer ↔ CanCompare (Suits model reading) compared)
  compare_as kind answer finds told = (
    λ suit. (kind, are_compared kind finds (told.0 suit)),
    λ can. told.1 (suit_as kind can.0 finds can.1),
  )

  pub compare_none : FindsKind model compared None → (IsTrue false ↔ CanCompare (Suits model reading) compared)
  compare_none none = (λ (e : IsTrue false). absurd (cc), λ can. absurd (none can.1.name can.1.some))

  pub order_as : (kind : ValueKind) (answer : Bool) → FindsKind model compared (Some kind) → IsNumeric kind → (IsTrue answer ↔ All (Suits model reading kind) compared)
      → (IsTrue answer ↔ CanOrder (Suits model reading) compared)
  order_as kind answer finds numeric told = (
    λ suit. (kind, numeric, are_compared kind finds (told.0 suit)),
    λ can. told.1 (suit_as kind can.0 finds can.2),
  )

  pub order_not : (kind : ValueKind) (answer : Bool) → FindsKind model compared (Some kind) → answer ≡ false → (IsTrue answer ↔ IsNumeric kind)
      → (IsTrue answer ↔ CanOrder (Suits model reading) compared)
  order_not kind answer finds not told = (
    λ yes. absurd (let is : answer ≡ true = yes in cc),
    λ can. told.1 (subst IsNumeric (compared_in kind can.0 finds can.2) can.1),
  )

  pub order_none : FindsKind model compared None → (IsTrue false ↔ CanOrder (Suits model reading) compared)
  order_none none = (λ (e : IsTrue false). absurd (cc), λ can. absurd (none can.2.name can.2.some))
