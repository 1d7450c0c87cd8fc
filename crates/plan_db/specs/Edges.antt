-- What is told of the time edges of a database.
use Rattle.std.specs.Prelude.{◌≡◌, ◌⊎◌, ◌<◌, false, true, List, [], length}
use Rattle.model_core.specs.History.{standing}
use Rattle.model_core.specs.State.{State}
use Rattle.plan_defs.specs.Closure.{IsLeast}
use Rattle.db_edges.specs.declared.edge.NamedEdge.{NamedEdge}
use Rattle.db_edges.specs.Whole.{AreTimeEdges}
use Rattle.db_history.specs.Advancing.{but_last}
use Rattle.plan_db.specs.declared.edges.EdgeFault.{EdgeFault}
use Rattle.plan_db.specs.declared.edges.EdgeFault.TheVariants as fault
use Rattle.plan_db.specs.Database.{Database, HasLeast, HasCollapsed}
use Rattle.plan_db.specs.Answers.{Held}

-- the edges of the list that stands, read from the least state that it leaves without its last decision; where no decision
-- stands, there are none
abbrev pub AreStandingEdges : Database → List NamedEdge → Type 0
AreStandingEdges database edges =
    ((standing database.history ≡ []) × (edges ≡ []))
    ⊎ ((0 < length (standing database.history))
    × ((before : State) × IsLeast database.model (but_last (standing database.history)) before
    × AreTimeEdges database.model (standing database.history) before edges))

-- they are told where the list that stands leaves nothing
abbrev pub HasEdges : Database → List NamedEdge → Type 0
HasEdges database edges = HasCollapsed database × AreStandingEdges database edges

-- why they aren't told; memory can be wanting only where they would be
abbrev pub HasNoEdges : Database → EdgeFault → Type 0
HasNoEdges database fault.Behind = ⊥
HasNoEdges database fault.Consistent = (state : State) × HasLeast database state
HasNoEdges database fault.Memory = HasCollapsed database

-- what is answered of the edges of a database
abbrev pub AnswersEdges : Held → List NamedEdge → Type 0
AnswersEdges held edges = (held.behind ≡ false) × HasEdges held.database edges

-- and where they aren't told
abbrev pub AnswersNoEdges : Held → EdgeFault → Type 0
AnswersNoEdges held fault.Behind = held.behind ≡ true
AnswersNoEdges held refused = (held.behind ≡ false) × HasNoEdges held.database refused
