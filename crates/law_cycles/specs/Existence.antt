-- What can't be missing of time edges.
use Rattle.std.specs.Prelude.{List}
use Rattle.db_edges.specs.declared.edge.NamedEdge.{NamedEdge}
use Rattle.db_edges.specs.TimeCycle.{IsTimeCycle}
use Rattle.law_states.specs.Undeniable.{Undeniable}
use Rattle.plan_db.specs.Database.{Database, IsSound}
use Rattle.plan_db.specs.Edges.{AreStandingEdges}

-- edges have times and no cycle, or none and the canonical cycle
abbrev pub EdgesHaveCycles : Type 0
EdgesHaveCycles = (edges : List NamedEdge) → Undeniable ((cycle : List NamedEdge) × IsTimeCycle edges cycle)

-- the list that stands in a sound database has time edges
abbrev pub DatabasesHaveEdges : Type 0
DatabasesHaveEdges =
    (database : Database) → IsSound database → Undeniable ((edges : List NamedEdge) × AreStandingEdges database edges)
