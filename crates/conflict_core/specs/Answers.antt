-- What is answered of why the decisions of a database leave nothing.
use Rattle.std.specs.Prelude.{◌≡◌, true, false, List}
use Rattle.model_core.specs.declared.decision.Decision.{Decision}
use Rattle.model_core.specs.History.{standing}
use Rattle.model_core.specs.State.{State}
use Rattle.plan_defs.specs.Settling.{IsConflict}
use Rattle.plan_db.specs.Answers.{Held}
use Rattle.plan_db.specs.Database.{HasLeast, HasCollapsed}
use Rattle.plan_db.specs.Edges.{AreStandingEdges}
use Rattle.db_edges.specs.declared.edge.NamedEdge.{NamedEdge}
use Rattle.db_edges.specs.TimeCycle.{IsTimeCycle}
use Rattle.conflict_core.specs.declared.fault.WhyFault.{WhyFault}
use Rattle.conflict_core.specs.declared.fault.WhyFault.TheVariants as fault

-- the decisions that stand leave nothing, and this is their conflict
pub record AnswersConflict (held : Held) (conflict : List Decision) : Type 0 where
  pub ready : held.behind ≡ false
  pub collapsed : HasCollapsed held.database
  pub is_conflict : IsConflict held.database.model (standing held.database.history) conflict

-- and this is the cycle of their time edges
pub record AnswersCycle (held : Held) (cycle : List NamedEdge) : Type 0 where
  pub ready : held.behind ≡ false
  pub collapsed : HasCollapsed held.database
  pub edges : List NamedEdge
  pub are_edges : AreStandingEdges held.database edges
  pub is_cycle : IsTimeCycle edges cycle

-- why neither is told; memory can be wanting only where they are
abbrev pub AnswersNoReason : Held → WhyFault → Type 0
AnswersNoReason held fault.Behind = held.behind ≡ true
AnswersNoReason held fault.Consistent = (held.behind ≡ false) × ((state : State) × HasLeast held.database state)
AnswersNoReason held fault.Memory = (held.behind ≡ false) × HasCollapsed held.database
