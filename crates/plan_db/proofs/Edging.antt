-- The time edges of what is kept.
use Rattle.std.proofs.Common.{◌≡◌, ◌<◌, List, [], Vec, Result, Ok, Err, inl, inr, sym, subst}
use Rattle.std.specs.Prelude.{length, take, ◌-◌, IfOk, MatchResult}
use Rattle.std.specs.Global.{Global}
use Rattle.std.specs.declared.alloc.AllocError.{AllocError}
use Rattle.model_core.specs.declared.decision.Decision.{Decision}
use Rattle.model_core.specs.declared.model.Model.{Model}
use Rattle.model_core.specs.History.{History, standing}
use Rattle.plan_defs.specs.Settling.{IsSettled}
use Rattle.db_edges.specs.declared.edge.NamedEdge.{NamedEdge}
use Rattle.db_edges.specs.Whole.{AreTimeEdges}
use Rattle.db_posting.specs.Underway.{IsAtRest}
use Rattle.db_store.specs.Stores.{Stored, snapshot_of}
use Rattle.db_refusals.specs.Seeing.{seen_state}
use Rattle.db_history.specs.declared.footing.Footing.TheVariants.{Fallen, Void}
use Rattle.db_history.specs.Advancing.{but_last, IsLeastOf}
use Rattle.db_history.specs.Standing.{Stood, KeepsListOn}
use Rattle.db_history.specs.Kept.{KeepsHistory}
use Rattle.plan_defs.proofs.Histories.{standing_settled}
use Rattle.plan_db.specs.declared.edges.EdgeFault.{EdgeFault}
use Rattle.plan_db.specs.declared.edges.EdgeFault.TheVariants as fault
use Rattle.plan_db.specs.Database.{taken_in}
use Rattle.plan_db.specs.Edges.{HasEdges, HasNoEdges}

module _ (model : Model) (history : History) (stood : Stood) (keeps : KeepsHistory model history stood) where
  -- no decision stands, and nothing is left even so
  pub void_edges : stood.footing ≡ Void → (edges : List NamedEdge) → edges ≡ [] → HasEdges (taken_in model history) edges
  void_edges void edges none =
      let on = subst (KeepsListOn model (standing history) stood.stored stood.marks) void keeps.list in
      (on.1, inl (on.0, none))

  module _ (fallen : stood.footing ≡ Fallen) (decisions : List Decision) (are : decisions ≡ standing history) (stored : Stored) (same : stored ≡ stood.stored) where
    on_fallen : KeepsListOn model (standing history) stood.stored stood.marks Fallen
    on_fallen = subst (KeepsListOn model (standing history) stood.stored stood.marks) fallen keeps.list

    least_before : IsLeastOf model (but_last (standing history)) (snapshot_of stored)
    least_before = subst (λ (s : Stored). IsLeastOf model (but_last (standing history)) (snapshot_of s)) (sym same) on_fallen.0.here

    pub some_stand : 0 < length decisions
    some_stand = subst (λ (list : List Decision). 0 < length list) (sym are) on_fallen.1

    pub rests_before : IsAtRest model (take (length decisions - 1) decisions) stored.net.tables (snapshot_of stored)
    rests_before = subst (λ (list : List Decision). IsAtRest model (but_last list) stored.net.tables (snapshot_of stored)) (sym are) least_before.rest

    pub settled_so : IsSettled model decisions
    settled_so = subst (IsSettled model) (sym are) (standing_settled model history keeps.is_history)

    -- the edges that are found are those of the list
    pub edges_found : (found : Result (Vec NamedEdge Global) AllocError) (answer : Result (Vec NamedEdge Global) EdgeFault)
        → IfOk found (λ edges. AreTimeEdges model decisions (seen_state stored) edges.items)
        → MatchResult found (λ edges. answer ≡ Ok edges) (λ none. answer ≡ Err fault.Memory)
        → MatchResult answer (λ edges. HasEdges (taken_in model history) edges.items) (HasNoEdges (taken_in model history))
    edges_found (Ok edges) answer is same_answer =
        subst (λ (a : Result (Vec NamedEdge Global) EdgeFault). MatchResult a (λ edges. HasEdges (taken_in model history) edges.items) (HasNoEdges (taken_in model history))) (sym same_answer) (
          on_fallen.2,
          inr (
            on_fallen.1,
            (
              seen_state stored,
              least_before.least,
              subst (λ (list : List Decision). AreTimeEdges model list (seen_state stored) edges.items) are is,
            ),
          ),
        )
    edges_found (Err none) answer is same_answer =
        subst (λ (a : Result (Vec NamedEdge Global) EdgeFault). MatchResult a (λ edges. HasEdges (taken_in model history) edges.items) (HasNoEdges (taken_in model history))) (sym same_answer)
        on_fallen.2
