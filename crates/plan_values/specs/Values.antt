-- The line of a name, and the values of a token.
use Rattle.std.specs.Prelude.{◌≡◌, ◌⊎◌, ℤ, List, Contains}
use Rattle.eu_name.specs.declared.name.TokenName.{TokenName}
use Rattle.eu_name.specs.declared.name.VarName.{VarName}
use Rattle.plan_defs.specs.declared.plan.Line.{Line}
use Rattle.plan_defs.specs.declared.plan.Line.TheVariants as lines
use Rattle.plan_defs.specs.declared.plan.Plan.{Plan}
use Rattle.plan_defs.specs.Plans.{order_name, TakesPlaceWith}

-- the line is one of the plan, and goes by this name
abbrev pub IsLineFor : Plan → VarName → Line → Type 0
IsLineFor plan name line = Contains plan.lines line × (order_name line ≡ name)

-- the token takes place with these values, or is another one that does
abbrev pub HasValues : Plan → TokenName → List ℤ → Type 0
HasValues plan token values =
    TakesPlaceWith plan token values
    ⊎ ((target : TokenName) × Contains plan.lines (lines.Merged token target) × TakesPlaceWith plan target values)
