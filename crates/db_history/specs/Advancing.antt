-- Going on from a store at rest by one decision.
use Rattle.std.specs.Prelude.{◌≡◌, ⊤, ◌-◌, Bool, true, false, List, [], ◌∷◌, ◌++◌, length, take, All, Result, Ok, Err}
use Rattle.domain_core.specs.declared.kind.Kind.{Kind}
use Rattle.eu_name.specs.declared.name.TokenName.{TokenName}
use Rattle.model_core.specs.declared.decision.ConArg.{ConArg}
use Rattle.model_core.specs.declared.decision.Decision.{Decision}
use Rattle.model_core.specs.declared.decision.Decision.TheVariants.{Merge, Constrain}
use Rattle.model_core.specs.declared.model.Model.{Model}
use Rattle.model_core.specs.Decided.{IsTaken}
use Rattle.constraint_net.specs.Networks.{IsIdle}
use Rattle.constraint_net.specs.declared.NetFault.{NetFault}
use Rattle.constraint_net.specs.declared.NetFault.TheVariants.{Collapsed, Memory}
use Rattle.plan_defs.specs.Claims.{Claim, Posts}
use Rattle.plan_defs.specs.Closure.{IsLeast, IsCollapsed}
use Rattle.plan_defs.specs.Refusals.{IsKnown, IsAlreadyDecided, HaveSamePredicate, IsAdmissible}
use Rattle.plan_defs.specs.Terms.{ArgumentCounts}
use Rattle.model_core.specs.Content.{shown}
use Rattle.db_refine.specs.Growth.{LeaveNothing}
use Rattle.db_posting.specs.Postable.{CanPostArguments}
use Rattle.db_posting.specs.Underway.{IsAtRest}
use Rattle.db_store.specs.Stores.{Stored, Snapshot, snapshot_of, named_content}
use Rattle.db_posting.specs.Tables.{HaveTables}
use Rattle.db_refusals.specs.InOrder.{state_of}
use Rattle.plan_defs.specs.Unordered.{AreDecidedOnce}

-- the snapshot is at rest for the decisions
abbrev pub IsRestOf : Model → List Decision → Snapshot → Type 0
IsRestOf model decisions snapshot = IsAtRest model decisions snapshot.tables snapshot

-- it is at rest for the decisions, whose least state is what is in it
pub record IsLeastOf (model : Model) (decisions : List Decision) (snapshot : Snapshot) : Type 0 where
  pub rest : IsRestOf model decisions snapshot
  pub least : IsLeast model decisions (state_of (named_content snapshot))
  pub tables : HaveTables model snapshot.tables

-- the store is at rest after the decisions, and the further one may follow: what it names is there, nothing is decided of that
-- yet, tokens that it merges are of one predicate, what it posts can be posted and counts, and no token is decided twice even so
pub record CanFollow (model : Model) (decisions : List Decision) (stored : Stored) (decision : Decision) : Type 0 where
  pub rest : IsRestOf model decisions (snapshot_of stored)
  pub known : IsKnown (shown (named_content (snapshot_of stored))) decision
  pub undecided : IsAlreadyDecided model decisions decision → ⊥
  pub alike : (token target : TokenName) → decision ≡ Merge token target → HaveSamePredicate model token target
  pub postable : (kind : Kind) (arguments : List ConArg) → decision ≡ Constrain kind arguments → CanPostArguments kind arguments
  pub counts : (claim : Claim) → Posts decision claim → All (ArgumentCounts model (IsTaken decisions)) claim.arguments
  pub once : AreDecidedOnce model (decisions ++ decision ∷ [])

-- what going on by the decision answers and leaves: the store at rest for the longer list, in which nothing waits, or that it
-- leaves nothing
abbrev pub AdvancesBy : Model → Decision → Stored → Result (Unit {0}) NetFault → Stored → Type 0
AdvancesBy model decision old (Ok done) new =
    (decisions : List Decision) → CanFollow model decisions old decision
    → IsRestOf model (decisions ++ decision ∷ []) (snapshot_of new) × (new.net.tables ≡ old.net.tables) × IsIdle new.net
AdvancesBy model decision old (Err Collapsed) new =
    (decisions : List Decision) → CanFollow model decisions old decision → LeaveNothing model (decisions ++ decision ∷ [])
AdvancesBy model decision old (Err Memory) new = ⊤

-- what beginning answers: a store at rest before any decision, in which nothing waits, or that nothing is left
abbrev pub StartsFrom : Model → Result Stored NetFault → Type 0
StartsFrom model (Ok stored) = IsRestOf model [] (snapshot_of stored) × HaveTables model stored.net.tables × IsIdle stored.net
StartsFrom model (Err Collapsed) = LeaveNothing model []
StartsFrom model (Err Memory) = ⊤

-- the same of a store that is brought to rest before any decision
abbrev pub BringsBeginningToRest : Model → Result (Unit {0}) NetFault → Stored → Type 0
BringsBeginningToRest model (Ok done) stored =
    IsRestOf model [] (snapshot_of stored) × HaveTables model stored.net.tables × IsIdle stored.net
BringsBeginningToRest model (Err Collapsed) stored = LeaveNothing model []
BringsBeginningToRest model (Err Memory) stored = ⊤

-- whether the decisions leave a least state, which then is what is in the store, and nothing waits there
abbrev pub LeavesLeast : Model → List Decision → Bool → Stored → Type 0
LeavesLeast model decisions true stored = IsLeastOf model decisions (snapshot_of stored) × IsIdle stored.net
LeavesLeast model decisions false stored = IsCollapsed model decisions

-- all but the last of the decisions
abbrev pub but_last : List Decision → List Decision
but_last decisions = take (length decisions - 1) decisions

-- the list ends with a decision that is admissible after those before it
abbrev pub EndsAdmissibly : Model → List Decision → Type 0
EndsAdmissibly model decisions =
    (last : Decision) × (decisions ≡ but_last decisions ++ last ∷ []) × IsAdmissible model (but_last decisions) last
