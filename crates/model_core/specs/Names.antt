-- Which token and which variable of a model a text names.
use Rattle.std.specs.Prelude.{◌≡◌, ℕ, List, [], codes}
use Rattle.eu_name.specs.declared.name.Part.{Part}
use Rattle.eu_name.specs.declared.name.Part.TheVariants.{Start, End, Duration, Object, Param}
use Rattle.eu_name.specs.declared.name.Step.{Step}
use Rattle.eu_name.specs.declared.name.TokenName.{TokenName}
use Rattle.eu_name.specs.declared.name.VarName.{VarName}
use Rattle.eu_name.specs.declared.name.VarName.TheVariants.{Token, Local, Global}
use Rattle.eu_name.specs.declared.name_text.NameText.{NameText}
use Rattle.eu_name.specs.declared.name_text.Tail.TheVariants as tails
use Rattle.eu_name.specs.Spelling.{IsWellFormed}
use Rattle.model_core.specs.declared.model.Model.{Model}
use Rattle.model_core.specs.declared.model.Root.{Root}
use Rattle.model_core.specs.declared.rule.Slot.{Slot}
use Rattle.model_core.specs.declared.variable.Base.{Base}
use Rattle.model_core.specs.declared.variable.VarDecl.{VarDecl}
use Rattle.model_core.specs.Lawful.{IsLawful}
use Rattle.model_core.specs.Tokens.{IsRoot, HasToken}
use Rattle.model_core.specs.Variables.{IsGlobal, HasBase, HasParameter, HasLocal}

-- the token to which the steps lead from the root of this number
abbrev pub token_at : ℕ → List Step → TokenName
token_at root steps = record { root = root; steps = steps }

-- the label is that of the token's root, the steps are those from there, and the model has the token, as the slot says
pub record LeadsToToken (model : Model) (text : NameText) (token : TokenName) (slot : Slot) : Type 0 where
  pub root : Root
  pub is_root : IsRoot model token.root root
  pub label : root.label ≡ text.label
  pub steps : token.steps ≡ text.steps
  pub has_token : HasToken model token slot

-- the text names the token: it leads there and ends
abbrev pub NamesToken : Model → NameText → TokenName → Type 0
NamesToken model text token = (text.tail ≡ tails.None) × ((slot : Slot) × LeadsToToken model text token slot)

-- the word for a part of a token of this predicate
abbrev pub IsPartWord : Model → ℕ → Part → List ℕ → Type 0
IsPartWord model pred Start word = word ≡ codes "start"
IsPartWord model pred End word = word ≡ codes "end"
IsPartWord model pred Duration word = word ≡ codes "duration"
IsPartWord model pred Object word = word ≡ codes "object"
IsPartWord model pred (Param number) word =
    (variable : VarDecl) × HasParameter model pred number variable × (variable.name ≡ word)

-- the text names the global: by its name alone
pub record NamesGlobal (model : Model) (text : NameText) (number : ℕ) : Type 0 where
  pub steps : text.steps ≡ []
  pub tail : text.tail ≡ tails.None
  pub variable : VarDecl
  pub is_global : IsGlobal model number variable
  pub label : variable.name ≡ text.label

-- the text names the part of the token: by the token with the word for the part
pub record NamesPart (model : Model) (text : NameText) (token : TokenName) (part : Part) : Type 0 where
  pub slot : Slot
  pub leads : LeadsToToken model text token slot
  pub word : List ℕ
  pub tail : text.tail ≡ tails.Part word
  pub is_word : IsPartWord model slot.pred part word

-- the text names the local of the token: by the token with the numbers of the rule and the local
pub record NamesLocal (model : Model) (text : NameText) (token : TokenName) (rule number : ℕ) : Type 0 where
  pub slot : Slot
  pub leads : LeadsToToken model text token slot
  pub tail : text.tail ≡ tails.Local rule number
  pub variable : VarDecl
  pub has_local : HasLocal model slot rule number variable

-- the text names the variable
abbrev pub NamesVariable : Model → NameText → VarName → Type 0
NamesVariable model text (Global number) = NamesGlobal model text number
NamesVariable model text (Token token part) = NamesPart model text token part
NamesVariable model text (Local token rule number) = NamesLocal model text token rule number

-- a text names at most one token of a lawful model
abbrev pub NamesOneToken : Type 0
NamesOneToken =
    (model : Model) (text : NameText) (one other : TokenName)
    → IsLawful model → NamesToken model text one → NamesToken model text other → one ≡ other

-- and at most one variable
abbrev pub NamesOneVariable : Type 0
NamesOneVariable =
    (model : Model) (text : NameText) (one other : VarName)
    → IsLawful model → NamesVariable model text one → NamesVariable model text other → one ≡ other

-- what a text names, the model has
abbrev pub NamesWhatThereIs : Type 0
NamesWhatThereIs =
    (model : Model) (text : NameText) (variable : VarName)
    → NamesVariable model text variable → (base : Base) × HasBase model variable base

-- what names a token of a lawful model is well-formed, so it has a spelling, from which it is read back
abbrev pub TokenTextsAreWellFormed : Type 0
TokenTextsAreWellFormed =
    (model : Model) (text : NameText) (token : TokenName) → IsLawful model → NamesToken model text token → IsWellFormed text

-- so is what names a variable
abbrev pub VariableTextsAreWellFormed : Type 0
VariableTextsAreWellFormed =
    (model : Model) (text : NameText) (variable : VarName) → IsLawful model → NamesVariable model text variable → IsWellFormed text

-- the text is the one of which this holds
pub record IsOnly (Names : NameText → Type 0) (text : NameText) : Type 0 where
  pub names : Names text
  pub only : (other : NameText) → Names other → other ≡ text

-- one text names each token that the model has
abbrev pub TokensHaveOneText : Type 0
TokensHaveOneText =
    (model : Model) (token : TokenName) (slot : Slot)
    → HasToken model token slot → (text : NameText) × IsOnly (λ named. NamesToken model named token) text

-- and one text names each variable
abbrev pub VariablesHaveOneText : Type 0
VariablesHaveOneText =
    (model : Model) (variable : VarName) (base : Base)
    → HasBase model variable base → (text : NameText) × IsOnly (λ named. NamesVariable model named variable) text
