-- What is asked for where time edges are read, and what is added to a list of them.
use Rattle.std.specs.Prelude.{◌≡◌, ℤ, List, ◌++◌, Contains}
use Rattle.domain_core.specs.Domain.{Domain, IsValue}
use Rattle.eu_name.specs.declared.name.Part.TheVariants.{Duration}
use Rattle.eu_name.specs.declared.name.TokenName.{TokenName}
use Rattle.eu_name.specs.declared.name.VarName.{VarName}
use Rattle.eu_name.specs.declared.name.VarName.TheVariants.{Token}
use Rattle.model_core.specs.declared.decision.Decision.{Decision}
use Rattle.model_core.specs.declared.decision.Decision.TheVariants.{Specify}
use Rattle.model_core.specs.State.{State, Gives}
use Rattle.db_edges.specs.declared.edge.NamedEdge.{NamedEdge}

-- behind the old edges stand some that are such
abbrev pub AddsEdges : (List NamedEdge → Type 0) → List NamedEdge → List NamedEdge → Type 0
AddsEdges Are old new = (more : List NamedEdge) × Are more × (new ≡ old ++ more)

-- what the decisions give variables are values
abbrev pub AreValues : List Decision → Type 0
AreValues decisions = (name : VarName) (value : ℤ) → Contains decisions (Specify name value) → IsValue value

-- each token has a duration
abbrev pub HaveDurations : State → Type 0
HaveDurations state = (token : TokenName) → Contains state.tokens token → (domain : Domain) × Gives state (Token token Duration) domain
