-- Points in time, and which part of which token is one by a list of decisions.
use Rattle.std.specs.Prelude.{◌≡◌, ◌⊎◌, List, Contains}
use Rattle.eu_name.specs.declared.name.Part.{Part}
use Rattle.eu_name.specs.declared.name.Part.TheVariants as part
use Rattle.eu_name.specs.declared.name.TokenName.{TokenName}
use Rattle.eu_name.specs.declared.name.VarName.TheVariants.{Token}
use Rattle.model_core.specs.declared.decision.Decision.{Decision}
use Rattle.model_core.specs.declared.decision.Decision.TheVariants.{Merge}
use Rattle.model_core.specs.declared.model.Model.{Model}
use Rattle.model_core.specs.Decided.{IsActive}
use Rattle.plan_defs.specs.Terms.{Argument, Variable}
use Rattle.db_edges.specs.declared.edge.Point.{Point}
use Rattle.db_edges.specs.declared.edge.Point.TheVariants.{Start, End}

-- the token takes place as the other: as itself where it is active, and as its target where it is merged
abbrev pub ActsAs : Model → List Decision → TokenName → TokenName → Type 0
ActsAs model decisions token other =
    (IsActive model decisions token × (other ≡ token)) ⊎ Contains decisions (Merge token other)

-- the part of the token is this point
abbrev pub IsMoment : Part → TokenName → Point → Type 0
IsMoment part.Start token point = point ≡ Start token
IsMoment part.End token point = point ≡ End token
IsMoment other token point = ⊥

-- the part of the token is this point, by the decisions: that of the token as which it takes place
abbrev pub IsPointOf : Model → List Decision → TokenName → Part → Point → Type 0
IsPointOf model decisions token which point =
    (other : TokenName) × ActsAs model decisions token other × IsMoment which other point

-- so is the argument
abbrev pub IsArgumentPoint : Model → List Decision → Argument → Point → Type 0
IsArgumentPoint model decisions (Variable (Token token which)) point = IsPointOf model decisions token which point
IsArgumentPoint model decisions other point = ⊥
