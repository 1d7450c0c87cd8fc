-- Taking up a decision: when it may be, and what that answers and leaves.
use Rattle.std.specs.Prelude.{◌≡◌, ℕ, ⊤, List, [], ◌∷◌, ◌++◌, length, slice_get, Some, All, Contains, Result, Ok, Err}
use Rattle.domain_core.specs.declared.kind.Kind.{Kind}
use Rattle.eu_name.specs.declared.name.Part.{Part}
use Rattle.eu_name.specs.declared.name.TokenName.{TokenName}
use Rattle.eu_name.specs.declared.name.VarName.TheVariants.{Token}
use Rattle.model_core.specs.declared.decision.ConArg.{ConArg}
use Rattle.model_core.specs.declared.decision.Decision.{Decision}
use Rattle.model_core.specs.declared.decision.Decision.TheVariants.{Merge, Constrain}
use Rattle.model_core.specs.declared.model.Model.{Model}
use Rattle.model_core.specs.Decided.{IsTaken}
use Rattle.constraint_net.specs.declared.NetFault.{NetFault}
use Rattle.constraint_net.specs.declared.NetFault.TheVariants.{Collapsed, Memory}
use Rattle.plan_defs.specs.Claims.{Claim, Posts}
use Rattle.plan_defs.specs.Refusals.{IsKnown, IsAlreadyDecided, HaveSamePredicate}
use Rattle.plan_defs.specs.Terms.{ArgumentCounts}
use Rattle.model_core.specs.Content.{shown}
use Rattle.db_refine.specs.Growth.{LeaveNothing}
use Rattle.db_refine.specs.Coming.{TakesToken}
use Rattle.db_store.specs.Stores.{Stored, snapshot_of}
use Rattle.db_posting.specs.Origins.{content_now}
use Rattle.db_posting.specs.Postable.{CanPostArguments}
use Rattle.db_posting.specs.Underway.{IsStoreUnderway, IsAtRest}

-- the store is at rest after the decisions, and the further one may follow: what it names is there, nothing is decided of that
-- yet, tokens that it merges are of one predicate, and what it posts can be posted and counts
pub record MayFollow (model : Model) (decisions : List Decision) (stored : Stored) (decision : Decision) : Type 0 where
  pub rest : IsAtRest model decisions stored.net.tables (snapshot_of stored)
  pub known : IsKnown (shown (content_now stored)) decision
  pub undecided : IsAlreadyDecided model decisions decision → ⊥
  pub alike : (token target : TokenName) → decision ≡ Merge token target → HaveSamePredicate model token target
  pub postable : (kind : Kind) (arguments : List ConArg) → decision ≡ Constrain kind arguments → CanPostArguments kind arguments
  pub counts : (claim : Claim) → Posts decision claim → All (ArgumentCounts model (IsTaken decisions)) claim.arguments

-- after the decision each part of a token that it takes is due, and so is what is noted as changed
pub record IsDueAfter (decision : Decision) (stored : Stored) (due : List ℕ) : Type 0 where
  pub parts : (token : TokenName) (part : Part) (number : ℕ) → TakesToken decision token
      → slice_get (content_now stored).names number ≡ Some (Token token part) → Contains due number
  pub changed : (number : ℕ) → Contains stored.net.changed number → Contains due number

-- what taking the decision up answers and leaves: the store is underway after it too, where the blocks that were there are
-- unfolded and at least what is due after it is due
abbrev pub TakesUp : Model → Decision → Stored → Result (Unit {0}) NetFault → Stored → Type 0
TakesUp model decision old (Ok done) new =
    (decisions : List Decision) (due : List ℕ) → MayFollow model decisions old decision → IsDueAfter decision new due
    → let longer = decisions ++ decision ∷ [] in IsStoreUnderway model longer longer new (length old.blocks) due
TakesUp model decision old (Err Collapsed) new =
    (decisions : List Decision) → MayFollow model decisions old decision → LeaveNothing model (decisions ++ decision ∷ [])
TakesUp model decision old (Err Memory) new = ⊤
