-- Taking decisions out, and what each step of the log was.
use Rattle.std.specs.Prelude.{◌≡◌, ℕ, ◌+◌, ◌≤◌, Bool, true, false, List}
use Rattle.std.specs.Prelude.{[], ◌∷◌, ◌++◌, length, Option, Some, None}
use Rattle.model_core.specs.declared.decision.Decision.{Decision}
use Rattle.model_core.specs.History.{History}
use Rattle.decision_log.specs.declared.log.LogStep.{LogStep}
use Rattle.decision_log.specs.declared.log.LogStep.TheVariants.{Push, Take}

-- the decisions whose flag says that they are kept, in order
abbrev pub kept_of : List Bool → List Decision → List Decision
kept_of [] decisions = []
kept_of (flag ∷ flags) [] = []
kept_of (true ∷ flags) (decision ∷ decisions) = decision ∷ kept_of flags decisions
kept_of (false ∷ flags) (decision ∷ decisions) = kept_of flags decisions

-- the step of this number, counted from the oldest, led from the one list to the other
abbrev pub LedByStep : History → ℕ → List Decision → List Decision → Type 0
LedByStep history number before after =
    (newer older : History) × ((history ≡ newer ++ after ∷ before ∷ older) × (length older ≡ number))

-- some decisions were taken out of a list, of which this one stood first
abbrev pub TakesFirst : List Decision → Decision → List Decision → Type 0
TakesFirst before decision after =
    (front back : List Decision) × ((flags : List Bool)
    × ((before ≡ front ++ decision ∷ back) × (after ≡ front ++ kept_of flags back)))

-- what the step of this number was; there is none from the number of steps on
abbrev pub TellsStep : History → ℕ → Option LogStep → Type 0
TellsStep history number None = length history ≤ number + 1
TellsStep history number (Some Push) =
    (before : List Decision) × ((decision : Decision) × LedByStep history number before (before ++ decision ∷ []))
TellsStep history number (Some (Take decision)) =
    (before after : List Decision) × (LedByStep history number before after × TakesFirst before decision.now after)
