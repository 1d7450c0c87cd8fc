-- Why nothing is possible, as it is told.
use Rattle.std.proofs.Common.{◌≡◌, ℕ, List, Result, Ok, Err, inl, inr, refl, sym, subst}
use Rattle.std.specs.Prelude.{All, IfOk, codes}
use Rattle.std.specs.List.{AllZip}
use Rattle.std.proofs.lemmas.List.Elements.{All-nil}
use Rattle.std.specs.declared.alloc.AllocError.{AllocError}
use Rattle.model_core.specs.declared.decision.Decision.{Decision}
use Rattle.model_core.specs.History.{standing}
use Rattle.conflict_core.specs.declared.fault.WhyFault.{WhyFault}
use Rattle.conflict_core.specs.declared.fault.WhyFault.TheVariants as why
use Rattle.conflict_core.specs.Answers.{AnswersConflict, AnswersCycle, AnswersNoReason}
use Rattle.plan_db.specs.Answers.{Held}
use Rattle.plan_db.specs.Database.{Database, IsSound}
use Rattle.plan_db.specs.Edges.{AreStandingEdges}
use Rattle.db_edges.specs.declared.edge.NamedEdge.{NamedEdge}
use Rattle.script_lang.specs.declared.command.Command.TheVariants as commands
use Rattle.session_replies.proofs.Pointing.{edges_writable}
use Rattle.session_replies.proofs.Settled.{standing_writable}
use Rattle.session_replies.specs.Writable.{IsEdgeWritable}
use Rattle.session_replies.specs.Lines.{counted_lines, IsEdgeLine}
use Rattle.session_core.specs.declared.reason.RefusalReason.TheVariants.{Consistent}
use Rattle.session_core.specs.Reasons.{refusal}
use Rattle.session_core.specs.Replies.{TellsCollapse, TellsDecisions, TellsConflict, TellsCycle}
use Rattle.session_core.specs.Steps.{AnswersCommand}
use Rattle.session_core.proofs.Told.{kept_answers}

-- the edges of the list that stands can be written
pub edges_there : (database : Database) (edges : List NamedEdge) → IsSound database → AreStandingEdges database edges
    → All (IsEdgeWritable database.model) edges
edges_there database edges sound (inl (none, same)) =
    subst (λ (list : List NamedEdge). All (IsEdgeWritable database.model) list) (sym same) (All-nil (IsEdgeWritable database.model))
edges_there database edges sound (inr (some, (before, least, are))) =
    edges_writable database.model (standing database.history) (standing_writable database.model database.history sound.history) before edges are

module _ (held : Held) where
  pub conflict_told : (conflict : List Decision) → AnswersConflict held conflict → (result : Result (List ℕ) AllocError)
      → IfOk result (TellsDecisions held.database.model (codes "conflict") conflict) → AnswersCommand held.database commands.Why result held.database
  conflict_told conflict answers (Ok reply) told = (inr (answers.collapsed, (conflict, (answers.is_conflict, told))), refl)
  conflict_told conflict answers (Err none) told = inl refl

  pub cycle_told : (cycle : List NamedEdge) → AnswersCycle held cycle → (result : Result (List ℕ) AllocError)
      → IfOk result (λ reply. (lines : List (List ℕ)) × (AllZip (IsEdgeLine held.database.model) cycle lines × (reply ≡ counted_lines (codes "cycle") lines)))
      → AnswersCommand held.database commands.Cycle result held.database
  cycle_told cycle answers (Ok reply) (lines, (are, says)) =
      (inr (answers.collapsed, (answers.edges, cycle, lines, (answers.are_edges, answers.is_cycle, are, says))), refl)
  cycle_told cycle answers (Err none) told = inl refl

  unexplained : (Tells : Database → List ℕ → Type 0) (fault : WhyFault) → AnswersNoReason held fault → (result : Result (List ℕ) AllocError)
      → IfOk result (λ reply. (fault ≡ why.Consistent) × (reply ≡ refusal Consistent))
      → IfOk result (TellsCollapse (Tells held.database) held.database)
  unexplained Tells why.Consistent reason (Ok reply) says = inl (reason.1, says.1)
  unexplained Tells why.Behind reason (Ok reply) says = absurd (other says.0)
    where
      other : why.Behind ≡ why.Consistent → ⊥
      other same = cc
  unexplained Tells why.Memory reason (Ok reply) says = absurd (other says.0)
    where
      other : why.Memory ≡ why.Consistent → ⊥
      other same = cc
  unexplained Tells fault reason (Err none) says = tt

  pub unexplained_why : (fault : WhyFault) → AnswersNoReason held fault → (result : Result (List ℕ) AllocError)
      → IfOk result (λ reply. (fault ≡ why.Consistent) × (reply ≡ refusal Consistent)) → AnswersCommand held.database commands.Why result held.database
  unexplained_why fault reason result says =
      kept_answers held.database (TellsCollapse (TellsConflict held.database)) result (unexplained TellsConflict fault reason result says)

  pub unexplained_cycle : (fault : WhyFault) → AnswersNoReason held fault → (result : Result (List ℕ) AllocError)
      → IfOk result (λ reply. (fault ≡ why.Consistent) × (reply ≡ refusal Consistent)) → AnswersCommand held.database commands.Cycle result held.database
  unexplained_cycle fault reason result says =
      kept_answers held.database (TellsCollapse (TellsCycle held.database)) result (unexplained TellsCycle fault reason result says)
