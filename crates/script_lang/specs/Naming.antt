-- What the words of a command mean in a model.
use Rattle.std.specs.Prelude.{◌≡◌, ℕ, ◌⊎◌, ℤ, pos, List, Option, Some, None, MatchOption}
use Rattle.std.specs.List.{AllZip}
use Rattle.domain_core.specs.declared.kind.Kind.{Kind}
use Rattle.domain_core.specs.Domain.{IsValue}
use Rattle.eu_name.specs.declared.name.VarName.{VarName}
use Rattle.eu_name.specs.declared.name_text.NameText.{NameText}
use Rattle.eu_name.specs.Spelling.{Spells}
use Rattle.model_core.specs.declared.decision.ConArg.{ConArg}
use Rattle.model_core.specs.declared.decision.ConArg.TheVariants as arguments
use Rattle.model_core.specs.declared.decision.Decision.{Decision}
use Rattle.model_core.specs.declared.decision.Decision.TheVariants as decisions
use Rattle.model_core.specs.declared.model.Model.{Model}
use Rattle.model_core.specs.declared.variable.ValueKind.{ValueKind}
use Rattle.model_core.specs.declared.variable.ValueKind.TheVariants as kinds
use Rattle.model_core.specs.Kinds.{IsVariableOfKind}
use Rattle.model_core.specs.Names.{NamesToken, NamesVariable}
use Rattle.plan_text.specs.Values.{IsValueText}
use Rattle.script_lang.specs.declared.command.Command.{Command}
use Rattle.script_lang.specs.declared.command.Command.TheVariants.{Specify, Activate, Merge, Reject, Order, Post, Relate}
use Rattle.script_lang.specs.declared.command.DecisionText.{DecisionText}
use Rattle.script_lang.specs.declared.command.DecisionText.TheVariants as texts
use Rattle.script_lang.specs.Compared.{compared, IsFirstKind, kind_at, AllPlaced}
use Rattle.script_lang.specs.Number.{IsSignedNumber, signed_value, SaysThousandths}

-- the word says the value of the kind: any number of those that have digits, any thousandths of those that have a point too,
-- and of every other kind what is written of it
abbrev pub SaysValue : Model → ValueKind → ℤ → List ℕ → Type 0
SaysValue model kinds.Int value word = IsSignedNumber word × (value ≡ signed_value word)
SaysValue model kinds.Float value word = SaysThousandths value word
SaysValue model kind value word = IsValueText model kind value word

-- the word names the variable
abbrev pub SaysVariable : Model → VarName → List ℕ → Type 0
SaysVariable model name word = (text : NameText) × (Spells word text × NamesVariable model text name)

-- it names none
abbrev pub SaysNoVariable : Model → List ℕ → Type 0
SaysNoVariable model word = (name : VarName) → SaysVariable model name word → ⊥

-- the word says the value, in the kind in which it is read; in none any word says 0
abbrev pub SaysValueIn : Model → Option ValueKind → ℤ → List ℕ → Type 0
SaysValueIn model (Some kind) value word = SaysValue model kind value word
SaysValueIn model None value word = value ≡ pos 0

-- the word says the argument: the variable that it names, or, where it names none, the value that it says
abbrev pub SaysArgument : Model → Option ValueKind → List ℕ → ConArg → Type 0
SaysArgument model kind word (arguments.Var name) = SaysVariable model name word
SaysArgument model kind word (arguments.Value value) = SaysNoVariable model word × SaysValueIn model kind value word

-- the words say the arguments of the constraint: each is read in the kind that belongs to its place, and this is mostly that of
-- the first variable among those that are compared
pub record SayArguments (model : Model) (kind : Kind) (words : List (List ℕ)) (given : List ConArg) : Type 0 where
  pub among : Option ValueKind
  pub is_among : IsFirstKind model (compared kind given) among
  pub say : AllPlaced (λ place. SaysArgument model (kind_at kind among place)) 0 words given

-- the command asks for the decision: its words name what the decision is about, and say its value
abbrev pub AsksDecision : Model → Command → Decision → Type 0
AsksDecision model (Specify variable word) (decisions.Specify name value) =
    NamesVariable model variable name
    × ((kind : ValueKind) × (IsVariableOfKind model kind name × SaysValue model kind value word))
AsksDecision model (Activate text) (decisions.Activate token) = NamesToken model text token
AsksDecision model (Merge text into) (decisions.Merge token target) =
    NamesToken model text token × NamesToken model into target
AsksDecision model (Reject text) (decisions.Reject token) = NamesToken model text token
AsksDecision model (Order text after) (decisions.Order first second) =
    NamesToken model text first × NamesToken model after second
AsksDecision model (Post kind words) (decisions.Constrain other given) =
    (other ≡ kind) × SayArguments model kind words given
AsksDecision model (Relate relation text after) (decisions.Relate other first second) =
    (other ≡ relation) × NamesToken model text first × NamesToken model after second
AsksDecision model command decision = ⊥

-- its words name nothing in the model, or say no value of the variable's kind
abbrev pub AsksNothing : Model → Command → Type 0
AsksNothing model command = (decision : Decision) → AsksDecision model command decision → ⊥

-- the value is the number, or neither lies in the range of values
abbrev pub StandsFor : ℤ → ℤ → Type 0
StandsFor value number = (value ≡ number) ⊎ ((IsValue value → ⊥) × (IsValue number → ⊥))

-- the one argument stands for the other
abbrev pub StandsForArgument : ConArg → ConArg → Type 0
StandsForArgument (arguments.Var name) (arguments.Var asked) = name ≡ asked
StandsForArgument (arguments.Value value) (arguments.Value number) = StandsFor value number
StandsForArgument argument asked = ⊥

-- each of them stands for the one in its place
abbrev pub StandForArguments : List ConArg → List ConArg → Type 0
StandForArguments given asked = AllZip StandsForArgument given asked

-- the one decision stands for the other, of which values may lie outside the range of values
abbrev pub StandsForDecision : Decision → Decision → Type 0
StandsForDecision (decisions.Specify name value) (decisions.Specify asked number) = (name ≡ asked) × StandsFor value number
StandsForDecision (decisions.Constrain kind given) (decisions.Constrain other asked) =
    (kind ≡ other) × StandForArguments given asked
StandsForDecision decision asked = decision ≡ asked

-- the command that asks for a decision in these words
abbrev pub decision_command : DecisionText → Command
decision_command (texts.Specify variable value) = Specify variable value
decision_command (texts.Activate token) = Activate token
decision_command (texts.Merge token target) = Merge token target
decision_command (texts.Reject token) = Reject token
decision_command (texts.Order first second) = Order first second
decision_command (texts.Constrain kind words) = Post kind words
decision_command (texts.Relate relation first second) = Relate relation first second

-- what is answered of a command: that it asks for nothing, or a decision that stands for one that it asks for
abbrev pub FindsDecision : Model → Command → Option Decision → Type 0
FindsDecision model command answer =
    MatchOption answer (AsksNothing model command)
    (λ decision. (asked : Decision) × (AsksDecision model command asked × StandsForDecision decision asked))

-- what is answered of the words for a constraint's arguments: that they say none, or some that stand for those that they say
abbrev pub FindsArguments : Model → Kind → List (List ℕ) → Option (List ConArg) → Type 0
FindsArguments model kind words answer =
    MatchOption answer ((asked : List ConArg) → SayArguments model kind words asked → ⊥)
    (λ given. (asked : List ConArg) × (SayArguments model kind words asked × StandForArguments given asked))
