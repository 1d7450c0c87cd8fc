-- What a line of a script asks for.
use Rattle.std.specs.Prelude.{◌≡◌, ℕ, ◌<◌, ◌≤◌, ◌⊎◌, ⊤, List, [], ◌∷◌, length, All, codes, Result, Ok, Err}
use Rattle.std.specs.Fmt.{decimal}
use Rattle.domain_core.specs.declared.kind.Kind.{Kind}
use Rattle.eu_name.specs.declared.name_text.NameText.{NameText}
use Rattle.eu_name.specs.Spelling.{Spells}
use Rattle.model_core.specs.declared.item.Rel.{Rel}
use Rattle.model_core.specs.Naming.{IsPath}
use Rattle.plan_text.specs.Values.{IsTruthWord}
use Rattle.script_lang.specs.declared.command.Command.{Command}
use Rattle.script_lang.specs.declared.command.Command.TheVariants.{Empty, Specify, Activate, Merge, Reject, Order, Post, Relate}
use Rattle.script_lang.specs.declared.command.Command.TheVariants.{Reset, ResetOrder, Withdraw, Unrelate}
use Rattle.script_lang.specs.declared.command.Command.TheVariants.{Undo, Domain, Tokens, Decisions, Flaws, Solve, Why, Cycle, Quit}
use Rattle.script_lang.specs.declared.command.LineFault.{LineFault}
use Rattle.script_lang.specs.declared.command.LineFault.TheVariants.{TooLong, Syntax, Memory}
use Rattle.script_lang.specs.KindWords.{IsPosted, constraint_word, relation_word}
use Rattle.script_lang.specs.Words.{words_of}
use Rattle.script_lang.specs.Number.{IsSignedNumber, IsSignedDecimal}

-- the word can be a value: a number, a decimal, a truth, or names with single points between them
abbrev pub IsValueWord : List ℕ → Type 0
IsValueWord word = IsSignedNumber word ⊎ (IsSignedDecimal word ⊎ (IsTruthWord word ⊎ IsPath word))

-- the word can be an argument of a constraint: a name, or a value
abbrev pub IsArgumentWord : List ℕ → Type 0
IsArgumentWord word = ((name : NameText) × Spells word name) ⊎ IsValueWord word

-- the words are this one alone
abbrev pub AreAlone : List (List ℕ) → List ℕ → Type 0
AreAlone words first = words ≡ first ∷ []

-- the words are this one and a name
abbrev pub AreWithName : List (List ℕ) → List ℕ → NameText → Type 0
AreWithName words first name = (word : List ℕ) × ((words ≡ first ∷ word ∷ []) × Spells word name)

-- the words are this one and two names
abbrev pub AreWithNames : List (List ℕ) → List ℕ → NameText → NameText → Type 0
AreWithNames words first one other =
    (word : List ℕ) × ((next : List ℕ) × ((words ≡ first ∷ word ∷ next ∷ []) × Spells word one × Spells next other))

-- the words are this one, a name and a value
abbrev pub AreWithValue : List (List ℕ) → List ℕ → NameText → List ℕ → Type 0
AreWithValue words first name value =
    (word : List ℕ) × ((words ≡ first ∷ word ∷ value ∷ []) × Spells word name × IsValueWord value)

-- the words are this one, a constraint that may be posted, and its arguments, one or more
abbrev pub AreWithConstraint : List (List ℕ) → List ℕ → Kind → List (List ℕ) → Type 0
AreWithConstraint words first kind arguments =
    (words ≡ first ∷ constraint_word kind ∷ arguments) × IsPosted kind × (0 < length arguments)
    × All IsArgumentWord arguments

-- the words are this one, a relation and two names
abbrev pub AreWithRelation : List (List ℕ) → List ℕ → Rel → NameText → NameText → Type 0
AreWithRelation words first relation one other =
    (word : List ℕ) × ((next : List ℕ) × ((words ≡ first ∷ relation_word relation ∷ word ∷ next ∷ [])
    × Spells word one × Spells next other))

-- the words ask for a search: with 1 to 1,000,000 visits and no more than 512 active tokens, in digits without leading zeros
abbrev pub AreForSearch : List (List ℕ) → ℕ → ℕ → Type 0
AreForSearch words steps tokens =
    (words ≡ codes "solve" ∷ decimal steps ∷ decimal tokens ∷ []) × (0 < steps) × (steps ≤ 1000000) × (tokens ≤ 512)

-- the words ask for this
abbrev pub IsCommand : List (List ℕ) → Command → Type 0
IsCommand words Empty = words ≡ []
IsCommand words (Specify variable value) = AreWithValue words (codes "specify") variable value
IsCommand words (Activate token) = AreWithName words (codes "activate") token
IsCommand words (Merge token target) = AreWithNames words (codes "merge") token target
IsCommand words (Reject token) = AreWithName words (codes "reject") token
IsCommand words (Order first second) = AreWithNames words (codes "order") first second
IsCommand words (Post kind arguments) = AreWithConstraint words (codes "post") kind arguments
IsCommand words (Relate relation first second) = AreWithRelation words (codes "relate") relation first second
IsCommand words (Reset subject) = AreWithName words (codes "reset") subject
IsCommand words (ResetOrder first second) = AreWithNames words (codes "reset") first second
IsCommand words (Withdraw kind arguments) = AreWithConstraint words (codes "withdraw") kind arguments
IsCommand words (Unrelate relation first second) = AreWithRelation words (codes "unrelate") relation first second
IsCommand words Undo = AreAlone words (codes "undo")
IsCommand words (Domain variable) = AreWithName words (codes "domain") variable
IsCommand words Tokens = AreAlone words (codes "tokens")
IsCommand words Decisions = AreAlone words (codes "decisions")
IsCommand words Flaws = AreAlone words (codes "flaws")
IsCommand words (Solve steps tokens) = AreForSearch words steps tokens
IsCommand words Why = AreAlone words (codes "why")
IsCommand words Cycle = AreAlone words (codes "cycle")
IsCommand words Quit = AreAlone words (codes "quit")

-- the command has a name or a value of its line, which takes memory
abbrev pub KeepsWord : Command → Type 0
KeepsWord (Specify variable value) = ⊤
KeepsWord (Activate token) = ⊤
KeepsWord (Merge token target) = ⊤
KeepsWord (Reject token) = ⊤
KeepsWord (Order first second) = ⊤
KeepsWord (Post kind arguments) = ⊤
KeepsWord (Relate relation first second) = ⊤
KeepsWord (Reset subject) = ⊤
KeepsWord (ResetOrder first second) = ⊤
KeepsWord (Withdraw kind arguments) = ⊤
KeepsWord (Unrelate relation first second) = ⊤
KeepsWord (Domain variable) = ⊤
KeepsWord command = ⊥

-- the answer to words: what they ask for, that they ask for nothing, or that memory ran out for what they ask to keep
abbrev pub AnswersWords : List (List ℕ) → Result Command LineFault → Type 0
AnswersWords words (Ok command) = IsCommand words command
AnswersWords words (Err TooLong) = ⊥
AnswersWords words (Err Syntax) = (command : Command) → IsCommand words command → ⊥
AnswersWords words (Err Memory) = (command : Command) × IsCommand words command × KeepsWord command

-- the answer to a line: a line of more than 4,096 bytes is too long, whatever it has
abbrev pub ReadsLine : List ℕ → Result Command LineFault → Type 0
ReadsLine line (Ok command) = (length line ≤ 4096) × IsCommand (words_of line) command
ReadsLine line (Err TooLong) = 4096 < length line
ReadsLine line (Err Syntax) = (length line ≤ 4096) × AnswersWords (words_of line) (Err Syntax)
ReadsLine line (Err Memory) = (length line ≤ 4096) × AnswersWords (words_of line) (Err Memory)
