-- What is told of a database, by what was found.
use Rattle.std.proofs.Common.{◌≡◌, Bool, true, false, List, Vec, Result, Ok, Err, sym, subst}
use Rattle.std.specs.Prelude.{IfOk, MatchBool, MatchResult}
use Rattle.std.specs.Global.{Global}
use Rattle.std.specs.declared.alloc.AllocError.{AllocError}
use Rattle.model_core.specs.declared.decision.Decision.{Decision}
use Rattle.model_core.specs.History.{standing}
use Rattle.plan_defs.specs.Settling.{IsConflict}
use Rattle.plan_defs.proofs.Histories.{standing_settled}
use Rattle.db_edges.specs.declared.edge.NamedEdge.{NamedEdge}
use Rattle.db_edges.specs.TimeCycle.{IsTimeCycle}
use Rattle.plan_db.specs.Answers.{Held}
use Rattle.plan_db.specs.Database.{IsSound, HasCollapsed}
use Rattle.plan_db.specs.Edges.{AnswersEdges}
use Rattle.law_states.specs.Conflicts.{IsMinimal, ConflictsAreMinimal}
use Rattle.conflict_core.specs.declared.fault.WhyFault.{WhyFault}
use Rattle.conflict_core.specs.declared.fault.WhyFault.TheVariants as fault
use Rattle.conflict_core.specs.Answers.{AnswersConflict, AnswersCycle, AnswersNoReason}

-- what an answer says where it is true, and where it is false
pub when_true : (P Q : Type 0) (answer : Bool) → MatchBool answer P Q → answer ≡ true → P
when_true P Q true says is = says
when_true P Q false says is = absurd (let apart : ⊥ = cc in apart)

pub when_false : (P Q : Type 0) (answer : Bool) → MatchBool answer P Q → answer ≡ false → Q
when_false P Q false says is = says
when_false P Q true says is = absurd (let apart : ⊥ = cc in apart)

-- the conflict that is found is told
pub conflict_told : (held : Held) (found : Result (Vec Decision Global) AllocError) (answer : Result (Vec Decision Global) WhyFault)
    → held.behind ≡ false → HasCollapsed held.database
    → IfOk found (λ conflict. IsConflict held.database.model (standing held.database.history) conflict.items)
    → MatchResult found (λ conflict. answer ≡ Ok conflict) (λ none. answer ≡ Err fault.Memory)
    → MatchResult answer (λ conflict. AnswersConflict held conflict.items) (AnswersNoReason held)
conflict_told held (Ok conflict) answer ready collapsed is same =
    subst (λ (a : Result (Vec Decision Global) WhyFault). MatchResult a (λ list. AnswersConflict held list.items) (AnswersNoReason held)) (sym same)
    (record { ready = ready; collapsed = collapsed; is_conflict = is })
conflict_told held (Err none) answer ready collapsed is same =
    subst (λ (a : Result (Vec Decision Global) WhyFault). MatchResult a (λ list. AnswersConflict held list.items) (AnswersNoReason held)) (sym same)
    (ready, collapsed)

-- and none of it can go
pub conflict_needed : (held : Held) (answer : Result (Vec Decision Global) WhyFault) → ConflictsAreMinimal → IsSound held.database
    → MatchResult answer (λ conflict. AnswersConflict held conflict.items) (AnswersNoReason held)
    → IfOk answer (λ conflict. IsMinimal held.database.model conflict.items)
conflict_needed held (Ok conflict) law sound told =
    law held.database.model (standing held.database.history) conflict.items sound.lawful
    (standing_settled held.database.model held.database.history sound.history) told.collapsed told.is_conflict
conflict_needed held (Err reason) law sound told = tt

-- the cycle that is found is told
pub cycle_told : (held : Held) (edges : List NamedEdge) (found : Result (Vec NamedEdge Global) AllocError) (answer : Result (Vec NamedEdge Global) WhyFault)
    → AnswersEdges held edges → IfOk found (λ cycle. IsTimeCycle edges cycle.items)
    → MatchResult found (λ cycle. answer ≡ Ok cycle) (λ none. answer ≡ Err fault.Memory)
    → MatchResult answer (λ cycle. AnswersCycle held cycle.items) (AnswersNoReason held)
cycle_told held edges (Ok cycle) answer are is same =
    subst (λ (a : Result (Vec NamedEdge Global) WhyFault). MatchResult a (λ list. AnswersCycle held list.items) (AnswersNoReason held)) (sym same)
    (record { ready = are.0; collapsed = are.1.0; edges = edges; are_edges = are.1.1; is_cycle = is })
cycle_told held edges (Err none) answer are is same =
    subst (λ (a : Result (Vec NamedEdge Global) WhyFault). MatchResult a (λ list. AnswersCycle held list.items) (AnswersNoReason held)) (sym same)
    (are.0, are.1.0)
