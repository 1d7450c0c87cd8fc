-- Tokens of one timeline by their values.
use Rattle.std.specs.Prelude.{ℕ, ◌<◌, ◌⊎◌, ℤ, ◌≤ℤ◌, ⊤, List}
use Rattle.eu_name.specs.declared.name.Part.TheVariants.{Start, End, Object}
use Rattle.model_core.specs.declared.model.Model.{Model}
use Rattle.plan_defs.specs.declared.plan.Line.{Line}
use Rattle.plan_defs.specs.declared.plan.Line.TheVariants as lines
use Rattle.plan_defs.specs.declared.plan.Plan.{Plan}
use Rattle.plan_defs.specs.Timelines.{IsTimeline}
use Rattle.plan_defs.specs.Valid.{IsLineAt, IsPartOf}

-- a token with these values is on a timeline
abbrev pub IsOnTimelineBy : Model → List ℤ → Type 0
IsOnTimelineBy model values = (timeline : ℤ) × IsTimeline model timeline × IsPartOf values Object timeline

-- by the line a token takes place on a timeline
abbrev pub IsLineOnTimeline : Model → Line → Type 0
IsLineOnTimeline model (lines.Token token fact values) = IsOnTimelineBy model values
IsLineOnTimeline model line = ⊥

-- tokens with these values are on one timeline
abbrev pub ShareTimelineBy : Model → List ℤ → List ℤ → Type 0
ShareTimelineBy model one other =
    (timeline : ℤ) × IsTimeline model timeline × IsPartOf one Object timeline × IsPartOf other Object timeline

-- a token with the one values ends before one with the others starts, or just then
abbrev pub EndsByValues : List ℤ → List ℤ → Type 0
EndsByValues one other = (end start : ℤ) × (IsPartOf one End end × IsPartOf other Start start × (end ≤ℤ start))

-- tokens with these values don't overlap if they are on one timeline
abbrev pub TakeTurnsBy : Model → List ℤ → List ℤ → Type 0
TakeTurnsBy model one other = ShareTimelineBy model one other → EndsByValues one other ⊎ EndsByValues other one

-- so it is with the tokens that take place by the two lines
abbrev pub LinesTakeTurns : Model → Line → Line → Type 0
LinesTakeTurns model (lines.Token one fact values) (lines.Token other fact' values') = TakeTurnsBy model values values'
LinesTakeTurns model one other = ⊤

-- so it is with the lines at the two places, where the second comes later
abbrev pub IsPairKept : Model → Plan → ℕ → ℕ → Type 0
IsPairKept model plan first second =
    first < second → (one other : Line) → IsLineAt plan first one → IsLineAt plan second other
    → LinesTakeTurns model one other
