-- What is found of the arguments of a constraint, one after another.
use Rattle.std.specs.Prelude.{◌≡◌, ℕ, pos, List, Option, MatchOption}
use Rattle.domain_core.specs.declared.kind.Kind.{Kind}
use Rattle.model_core.specs.declared.decision.ConArg.{ConArg}
use Rattle.model_core.specs.declared.decision.ConArg.TheVariants.{Var, Value}
use Rattle.model_core.specs.declared.model.Model.{Model}
use Rattle.model_core.specs.declared.variable.ValueKind.{ValueKind}
use Rattle.script_lang.specs.Compared.{kind_at, AllPlaced}
use Rattle.script_lang.specs.Naming.{SaysVariable, SaysNoVariable, SaysArgument, StandsForArgument, StandForArguments}

-- the argument is the variable that the word names, or 0 where it names none
abbrev pub NamesArgument : Model → List ℕ → ConArg → Type 0
NamesArgument model word (Var name) = SaysVariable model name word
NamesArgument model word (Value value) = SaysNoVariable model word × (value ≡ pos 0)

-- that the word says no argument, or one that stands for that which it says
abbrev pub AnswersArgument : Model → Option ValueKind → List ℕ → Option ConArg → Type 0
AnswersArgument model kind word answer =
    MatchOption answer ((asked : ConArg) → SaysArgument model kind word asked → ⊥)
    (λ given. (asked : ConArg) × (SaysArgument model kind word asked × StandsForArgument given asked))

-- that the words don't say an argument each, or arguments that stand for those that they say
abbrev pub AnswersArguments : Model → Kind → Option ValueKind → List (List ℕ) → Option (List ConArg) → Type 0
AnswersArguments model kind among words answer =
    MatchOption answer
    ((asked : List ConArg) → AllPlaced (λ place. SaysArgument model (kind_at kind among place)) 0 words asked → ⊥)
    (λ given. (asked : List ConArg) × (AllPlaced (λ place. SaysArgument model (kind_at kind among place)) 0 words asked
    × StandForArguments given asked))
