-- The lines of a plan text, word by word.
use Rattle.std.specs.Prelude.{◌≡◌, ℕ, ◌⊎◌, ℤ, true, false, Option, Some, None, List, [], ◌∷◌, ◌++◌, slice_get}
use Rattle.std.specs.Prelude.{Contains, codes}
use Rattle.eu_name.specs.declared.name.VarName.{VarName}
use Rattle.eu_name.specs.declared.name.VarName.TheVariants as variables
use Rattle.eu_name.specs.Word.{IsName}
use Rattle.model_core.specs.declared.class.Pred.{Pred}
use Rattle.model_core.specs.declared.model.Model.{Model}
use Rattle.model_core.specs.declared.variable.ValueKind.{ValueKind}
use Rattle.model_core.specs.declared.variable.ValueKind.TheVariants as kinds
use Rattle.model_core.specs.declared.variable.VarDecl.{VarDecl}
use Rattle.model_core.specs.Naming.{names_of}
use Rattle.plan_defs.specs.declared.plan.Line.TheVariants as lines
use Rattle.plan_defs.specs.Plans.{order_name}
use Rattle.plan_text.specs.declared.fault.Wrong.{Wrong}
use Rattle.plan_text.specs.declared.fault.Wrong.TheVariants.{Syntax, Unknown, Memory}
use Rattle.plan_text.specs.declared.statement.Keyword.{Keyword}
use Rattle.plan_text.specs.declared.statement.Keyword.TheVariants as keywords
use Rattle.plan_text.specs.declared.statement.Statement.{Statement}
use Rattle.plan_text.specs.declared.statement.Statement.TheVariants.{Global, Of}
use Rattle.plan_text.specs.Words.{HasWord, HasNoWord}
use Rattle.plan_text.specs.Found.{Found, Got, Stopped, Done, OneWord, Then, Exactly}
use Rattle.plan_text.specs.Values.{OneValue}
use Rattle.plan_text.specs.Subjects.{OneGlobal, OneToken, OneLocal, OneTarget, OnePredicate}

-- the words with which lines begin
abbrev pub keyword_text : Keyword → List ℕ
keyword_text keywords.Global = codes "global"
keyword_text keywords.Fact = codes "fact"
keyword_text keywords.Token = codes "token"
keyword_text keywords.Merged = codes "merged"
keyword_text keywords.Rejected = codes "rejected"
keyword_text keywords.Local = codes "local"
keyword_text keywords.End = codes "end"

abbrev pub IsNoKeyword : Wrong → List ℕ → Type 0
IsNoKeyword Syntax word = (keyword : Keyword) → word ≡ keyword_text keyword → ⊥
IsNoKeyword wrong word = ⊥

abbrev pub OneKeyword : List ℕ → Found Keyword → Type 0
OneKeyword = OneWord (codes "\n") (λ keyword word. word ≡ keyword_text keyword) IsNoKeyword

-- a name, and no parameter's
abbrev pub IsStrangeName : List (List ℕ) → List ℕ → Type 0
IsStrangeName names word = IsName word × (Contains names word → ⊥)

-- how a word is wrong where this parameter is due: another name is unknown if it is no parameter's
abbrev pub IsOtherParameter : List (List ℕ) → List ℕ → Wrong → List ℕ → Type 0
IsOtherParameter names expected Syntax word = (word ≡ expected → ⊥) × (IsStrangeName names word → ⊥)
IsOtherParameter names expected Unknown word = (word ≡ expected → ⊥) × IsStrangeName names word
IsOtherParameter names expected wrong word = ⊥

-- the part of a token with its value: `label value`
abbrev pub OnePart : Model → List ℕ → ValueKind → List ℕ → Found ℤ → Type 0
OnePart model label kind = Then (Exactly (codes " ") label) (λ said. OneValue model kind)

-- what a token line has before the parameters
abbrev pub FirstParts : Model → List ℕ → Found (List ℤ) → Type 0
FirstParts model =
    Then (OnePart model (codes "start") kinds.Int) (λ start.
    Then (OnePart model (codes "end") kinds.Int) (λ end.
    Then (OnePart model (codes "duration") kinds.Int) (λ duration.
    Then (OnePart model (codes "object") kinds.Object) (λ object.
    Done (start ∷ end ∷ duration ∷ object ∷ [])))))

-- the parameter's name with its value
abbrev pub OneParameter : Model → List (List ℕ) → VarDecl → List ℕ → Found ℤ → Type 0
OneParameter model names variable =
    Then (OneWord (codes " ") (λ (said : Unit {0}) word. word ≡ variable.name) (IsOtherParameter names variable.name))
    (λ said. OneValue model variable.kind)

-- these parameters in order
abbrev pub Parameters : Model → List (List ℕ) → List VarDecl → List ℕ → Found (List ℤ) → Type 0
Parameters model names [] = Done []
Parameters model names (variable ∷ more) =
    Then (OneParameter model names variable) (λ value. Then (Parameters model names more) (λ values. Done (value ∷ values)))

-- how a word is wrong behind the last parameter
abbrev pub IsSurplus : List (List ℕ) → Wrong → List ℕ → Type 0
IsSurplus names Syntax word = IsStrangeName names word → ⊥
IsSurplus names Unknown word = IsStrangeName names word
IsSurplus names wrong word = ⊥

-- no word comes behind a space
abbrev pub NoneLeft : List (List ℕ) → List ℕ → Found (Unit {0}) → Type 0
NoneLeft names text (Got said rest) = (rest ≡ text) × HasNoWord (codes " ") text
NoneLeft names text (Stopped wrong at) =
    (wrong ≡ Memory)
    ⊎ ((at ≡ text) × ((word : List ℕ) × ((rest : List ℕ) × (HasWord (codes " ") text word rest × IsSurplus names wrong word))))

-- the parameters, and nothing behind them
abbrev pub LastParts : Model → List VarDecl → List ℕ → Found (List ℤ) → Type 0
LastParts model params =
    Then (Parameters model (names_of params) params) (λ values. Then (NoneLeft (names_of params)) (λ said. Done values))

-- the values of a token of the predicate of this number
abbrev pub TokenValues : Model → ℕ → List ℕ → Found (List ℤ) → Type 0
TokenValues model number text found =
    (pred : Pred) × ((slice_get model.preds number ≡ Some pred)
    × Then (FirstParts model) (λ first. Then (LastParts model pred.params) (λ last. Done (first ++ last))) text found)

-- what follows the word with which a line begins, where lines have said something of these names
abbrev pub AfterKeyword : Model → List VarName → Keyword → List ℕ → Found (Option Statement) → Type 0
AfterKeyword model names keywords.Global =
    Then (OneGlobal model names) (λ found. Then (OneValue model found.kind) (λ value. Done (Some (Global found.number value))))
AfterKeyword model names keywords.Fact =
    Then (OneToken model names) (λ found. Then (OnePredicate model found.pred) (λ said.
    Then (TokenValues model found.pred) (λ values. Done (Some (Of (lines.Token found.name true values))))))
AfterKeyword model names keywords.Token =
    Then (OneToken model names) (λ found. Then (OnePredicate model found.pred) (λ said.
    Then (TokenValues model found.pred) (λ values. Done (Some (Of (lines.Token found.name false values))))))
AfterKeyword model names keywords.Merged =
    Then (OneToken model names) (λ found. Then (OneTarget model) (λ target. Done (Some (Of (lines.Merged found.name target)))))
AfterKeyword model names keywords.Rejected = Then (OneToken model names) (λ found. Done (Some (Of (lines.Rejected found.name))))
AfterKeyword model names keywords.Local =
    Then (OneLocal model names) (λ found. Then (OneValue model found.kind) (λ value. Done (Some (Of (lines.Local found.name value)))))
AfterKeyword model names keywords.End = Done None

-- a line, or none behind `end`
abbrev pub OneLine : Model → List VarName → List ℕ → Found (Option Statement) → Type 0
OneLine model names = Then OneKeyword (AfterKeyword model names)

-- what a line is about
abbrev pub stated_name : Statement → VarName
stated_name (Global number value) = variables.Global number
stated_name (Of line) = order_name line
