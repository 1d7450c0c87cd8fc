-- What the lines of a plan text are about, by name.
use Rattle.std.specs.Prelude.{◌≡◌, ℕ, List, ◌++◌, slice_get, Some, Contains, codes, ⊤}
use Rattle.eu_name.specs.declared.name.Part.TheVariants.{Start}
use Rattle.eu_name.specs.declared.name.TokenName.{TokenName}
use Rattle.eu_name.specs.declared.name.VarName.{VarName}
use Rattle.eu_name.specs.declared.name.VarName.TheVariants.{Global, Token, Local}
use Rattle.eu_name.specs.declared.name_text.NameText.{NameText}
use Rattle.eu_name.specs.Spelling.{Spells}
use Rattle.eu_name.specs.Word.{IsName}
use Rattle.model_core.specs.declared.class.Class.{Class}
use Rattle.model_core.specs.declared.class.Pred.{Pred}
use Rattle.model_core.specs.declared.model.Model.{Model}
use Rattle.model_core.specs.declared.rule.Slot.{Slot}
use Rattle.model_core.specs.declared.variable.ValueKind.{ValueKind}
use Rattle.model_core.specs.declared.variable.VarDecl.{VarDecl}
use Rattle.model_core.specs.Names.{NamesGlobal, NamesToken, NamesLocal}
use Rattle.model_core.specs.Tokens.{HasToken}
use Rattle.model_core.specs.Variables.{IsGlobal, HasLocal}
use Rattle.plan_text.specs.declared.fault.Wrong.{Wrong}
use Rattle.plan_text.specs.declared.fault.Wrong.TheVariants.{Syntax, Twice, Unknown, Memory}
use Rattle.plan_text.specs.declared.subject.NamedGlobal.{NamedGlobal}
use Rattle.plan_text.specs.declared.subject.NamedToken.{NamedToken}
use Rattle.plan_text.specs.declared.subject.NamedLocal.{NamedLocal}
use Rattle.plan_text.specs.Found.{Found, OneWord}

-- the text names what a line can be about: a global, a token, or a local; as in the order of lines, a token goes by its start
abbrev pub NamesSubject : Model → NameText → VarName → Type 0
NamesSubject model text (Global number) = NamesGlobal model text number
NamesSubject model text (Token token Start) = NamesToken model text token
NamesSubject model text (Token token part) = ⊥
NamesSubject model text (Local token rule number) = NamesLocal model text token rule number

-- the word does
pub record IsNameOf (model : Model) (name : VarName) (word : List ℕ) : Type 0 where
  pub text : NameText
  pub spells : Spells word text
  pub names : NamesSubject model text name

-- the word has the form of a name
abbrev pub IsNameWord : List ℕ → Type 0
IsNameWord word = (text : NameText) × Spells word text

-- the word is a name of what is wanted, and none of these names
pub record IsFreshName (model : Model) (names : List VarName) (Wanted : VarName → Type 0) (word : List ℕ) : Type 0 where
  pub name : VarName
  pub is_name : IsNameOf model name word
  pub wanted : Wanted name
  pub new : Contains names name → ⊥

-- how a word is wrong where a new name of what is wanted is due: it hasn't the form of a name, it is one of these names, or
-- else it names nothing that is wanted
abbrev pub IsNoFreshName : Model → List VarName → (VarName → Type 0) → Wrong → List ℕ → Type 0
IsNoFreshName model names Wanted Syntax word = IsNameWord word → ⊥
IsNoFreshName model names Wanted Twice word = (name : VarName) × (IsNameOf model name word × Contains names name)
IsNoFreshName model names Wanted Unknown word =
    IsNameWord word × ((name : VarName) → IsNameOf model name word → (Contains names name → ⊥) × (Wanted name → ⊥))
IsNoFreshName model names Wanted Memory word = ⊤

-- the global of this number, with its kind
abbrev pub IsGlobalOf : Model → NamedGlobal → VarName → Type 0
IsGlobalOf model found name =
    (name ≡ Global found.number)
    × ((variable : VarDecl) × (IsGlobal model found.number variable × (found.kind ≡ variable.kind)))

-- the token, with its predicate
abbrev pub IsTokenOf : Model → NamedToken → VarName → Type 0
IsTokenOf model found name =
    (name ≡ Token found.name Start) × ((slot : Slot) × (HasToken model found.name slot × (found.pred ≡ slot.pred)))

-- the local of a token, with its kind
abbrev pub IsLocalOfKind : Model → ValueKind → VarName → Type 0
IsLocalOfKind model kind (Local token rule number) =
    (slot : Slot) × (HasToken model token slot
    × ((variable : VarDecl) × (HasLocal model slot rule number variable × (kind ≡ variable.kind))))
IsLocalOfKind model kind name = ⊥

abbrev pub IsLocalOf : Model → NamedLocal → VarName → Type 0
IsLocalOf model found name = (name ≡ found.name) × IsLocalOfKind model found.kind name

-- a new name behind a space: of a global, a token or a local
abbrev pub OneGlobal : Model → List VarName → List ℕ → Found NamedGlobal → Type 0
OneGlobal model names =
    OneWord (codes " ") (λ found. IsFreshName model names (IsGlobalOf model found))
    (IsNoFreshName model names (λ name. (found : NamedGlobal) × IsGlobalOf model found name))

abbrev pub OneToken : Model → List VarName → List ℕ → Found NamedToken → Type 0
OneToken model names =
    OneWord (codes " ") (λ found. IsFreshName model names (IsTokenOf model found))
    (IsNoFreshName model names (λ name. (found : NamedToken) × IsTokenOf model found name))

abbrev pub OneLocal : Model → List VarName → List ℕ → Found NamedLocal → Type 0
OneLocal model names =
    OneWord (codes " ") (λ found. IsFreshName model names (IsLocalOf model found))
    (IsNoFreshName model names (λ name. (found : NamedLocal) × IsLocalOf model found name))

-- the token that another one is merged into
abbrev pub IsTargetName : Model → TokenName → List ℕ → Type 0
IsTargetName model target word = IsNameOf model (Token target Start) word

abbrev pub IsNoTarget : Model → Wrong → List ℕ → Type 0
IsNoTarget model Syntax word = IsNameWord word → ⊥
IsNoTarget model Twice word = ⊥
IsNoTarget model Unknown word = IsNameWord word × ((target : TokenName) → IsTargetName model target word → ⊥)
IsNoTarget model Memory word = ⊤

abbrev pub OneTarget : Model → List ℕ → Found TokenName → Type 0
OneTarget model = OneWord (codes " ") (IsTargetName model) (IsNoTarget model)

-- the word is the class and the name of the predicate of this number, with a point between them
pub record IsPredicateText (model : Model) (number : ℕ) (word : List ℕ) : Type 0 where
  pub pred : Pred
  pub is_pred : slice_get model.preds number ≡ Some pred
  pub class : Class
  pub is_class : slice_get model.classes pred.class ≡ Some class
  pub whole : word ≡ class.name ++ (codes "." ++ pred.name)

-- two names with a point between them
abbrev pub AreTwoNames : List ℕ → Type 0
AreTwoNames word =
    (class : List ℕ) × ((pred : List ℕ) × (IsName class × IsName pred × (word ≡ class ++ (codes "." ++ pred))))

abbrev pub IsNoPredicate : Model → ℕ → Wrong → List ℕ → Type 0
IsNoPredicate model number Syntax word = AreTwoNames word → ⊥
IsNoPredicate model number Twice word = ⊥
IsNoPredicate model number Unknown word = AreTwoNames word × (IsPredicateText model number word → ⊥)
IsNoPredicate model number Memory word = ⊥

abbrev pub OnePredicate : Model → ℕ → List ℕ → Found (Unit {0}) → Type 0
OnePredicate model number = OneWord (codes " ") (λ said. IsPredicateText model number) (IsNoPredicate model number)
