-- What is there has a line.
use Rattle.std.specs.Prelude.{ℕ, List, Contains}
use Rattle.domain_core.specs.Domain.{Domain}
use Rattle.eu_name.specs.declared.name.TokenName.{TokenName}
use Rattle.eu_name.specs.declared.name.VarName.{VarName}
use Rattle.model_core.specs.declared.decision.Decision.{Decision}
use Rattle.model_core.specs.declared.model.Model.{Model}
use Rattle.model_core.specs.declared.view.TokenState.{TokenState}
use Rattle.model_core.specs.Lawful.{IsLawful}
use Rattle.model_core.specs.State.{State, Gives, IsState}
use Rattle.model_core.specs.TokenStates.{HasTokenState}
use Rattle.db_edges.specs.declared.edge.NamedEdge.{NamedEdge}
use Rattle.plan_defs.specs.Closure.{AreInBase}
use Rattle.plan_defs.specs.Flaws.{Flaw}
use Rattle.session_replies.specs.Lines.{IsDomainLine, IsTokenLine, IsDecisionLine, IsEdgeLine, IsFlawLine}
use Rattle.session_replies.specs.Writable.{IsWritable, IsEdgeWritable, IsFlawWritable}

-- so has each variable of a state with its domain
abbrev pub DomainsHaveLines : Type 0
DomainsHaveLines =
    (model : Model) (state : State) (name : VarName) (domain : Domain)
    → IsLawful model → AreInBase model state → Gives state name domain → (line : List ℕ) × IsDomainLine model name domain line

-- each token of a state with what has become of it
abbrev pub TokensHaveLines : Type 0
TokensHaveLines =
    (model : Model) (state : State) (decisions : List Decision) (token : TokenName) (found : TokenState)
    → IsLawful model → IsState model state → Contains state.tokens token → HasTokenState model state decisions token found
    → (line : List ℕ) × IsTokenLine model state decisions token line

-- each decision that can be written
abbrev pub DecisionsHaveLines : Type 0
DecisionsHaveLines =
    (model : Model) (decision : Decision)
    → IsLawful model → IsWritable model decision → (line : List ℕ) × IsDecisionLine model decision line

-- each time edge
abbrev pub EdgesHaveLines : Type 0
EdgesHaveLines =
    (model : Model) (edge : NamedEdge)
    → IsLawful model → IsEdgeWritable model edge → (line : List ℕ) × IsEdgeLine model edge line

-- each flaw with the number of its choices
abbrev pub FlawsHaveLines : Type 0
FlawsHaveLines =
    (model : Model) (flaw : Flaw) (count : ℕ)
    → IsLawful model → IsFlawWritable model flaw → (line : List ℕ) × IsFlawLine model flaw count line
