-- Which decisions may be taken after which.
use Rattle.std.specs.Prelude.{◌≡◌, ◌≢◌, ℕ, ◌<◌, ◌≤◌, ℤ, ◌⊎◌, ⊤, List, length, map, All, AllPairs, Contains}
use Rattle.domain_core.specs.Domain.{Domain, Has}
use Rattle.eu_name.specs.declared.name.TokenName.{TokenName}
use Rattle.eu_name.specs.declared.name.VarName.{VarName}
use Rattle.model_core.specs.declared.decision.ConArg.{ConArg}
use Rattle.model_core.specs.declared.decision.ConArg.TheVariants.{Var, Value}
use Rattle.model_core.specs.declared.decision.Decision.{Decision}
use Rattle.model_core.specs.declared.decision.Decision.TheVariants.{Specify, Activate, Merge, Reject, Order, Constrain, Relate}
use Rattle.model_core.specs.declared.model.Model.{Model}
use Rattle.model_core.specs.declared.refusal.Refusal.{Refusal}
use Rattle.model_core.specs.declared.refusal.Refusal.TheVariants.{Unknown, WrongType, Decided, NotInDomain, NotActive, NotSamePredicate, NotRejectable, SameToken, ActiveFull}
use Rattle.model_core.specs.declared.rule.Slot.{Slot}
use Rattle.model_core.specs.declared.variable.Base.TheVariants.{Given}
use Rattle.model_core.specs.Arguments.{IsOfType, IsInType, Takes}
use Rattle.model_core.specs.Decided.{IsTaken, IsActive, IsDecided}
use Rattle.model_core.specs.State.{State, Gives}
use Rattle.model_core.specs.Tokens.{HasToken, IsRejectable}
use Rattle.model_core.specs.Variables.{HasBase}
use Rattle.plan_defs.specs.Claims.{argument_of}
use Rattle.plan_defs.specs.Closure.{IsLeast}
use Rattle.plan_defs.specs.Terms.{Counts, TokenCounts, ArgumentCounts}

-- how many reasons are looked for before this one
abbrev pub rank_of : Refusal → ℕ
rank_of Unknown = 0
rank_of WrongType = 1
rank_of Decided = 2
rank_of NotInDomain = 3
rank_of NotActive = 4
rank_of NotSamePredicate = 5
rank_of NotRejectable = 6
rank_of SameToken = 7
rank_of ActiveFull = 8

-- the state has the argument, if it is a variable
abbrev pub IsArgumentKnown : State → ConArg → Type 0
IsArgumentKnown state (Var name) = (domain : Domain) × Gives state name domain
IsArgumentKnown state (Value value) = ⊤

-- the state has what the decision names
abbrev pub IsKnown : State → Decision → Type 0
IsKnown state (Specify name value) = (domain : Domain) × Gives state name domain
IsKnown state (Activate token) = Contains state.tokens token
IsKnown state (Merge token target) = Contains state.tokens token × Contains state.tokens target
IsKnown state (Reject token) = Contains state.tokens token
IsKnown state (Order one other) = Contains state.tokens one × Contains state.tokens other
IsKnown state (Constrain kind arguments) = All (IsArgumentKnown state) arguments
IsKnown state (Relate relation one other) = Contains state.tokens one × Contains state.tokens other

-- what the decision is about is decided already; a constraint or a relation stands once
abbrev pub IsAlreadyDecided : Model → List Decision → Decision → Type 0
IsAlreadyDecided model decisions (Specify name value) = (other : ℤ) × Contains decisions (Specify name other)
IsAlreadyDecided model decisions (Activate token) = IsDecided model decisions token
IsAlreadyDecided model decisions (Merge token target) = IsDecided model decisions token
IsAlreadyDecided model decisions (Reject token) = IsDecided model decisions token
IsAlreadyDecided model decisions (Order one other) = Contains decisions (Order one other)
IsAlreadyDecided model decisions (Constrain kind arguments) = Contains decisions (Constrain kind arguments)
IsAlreadyDecided model decisions (Relate relation one other) = Contains decisions (Relate relation one other)

-- the value is one that the variable is declared with
abbrev pub IsDeclared : Model → VarName → ℤ → Type 0
IsDeclared model name value = (base : Domain) × HasBase model name (Given base) × Has base value

-- a token would have to be taken or active that isn't: the rejectable that owns a variable, or that a relation names, the target
-- of a merge, and either one of an order
abbrev pub NeedsActive : Model → List Decision → Decision → Type 0
NeedsActive model decisions (Specify name value) = Counts model (IsTaken decisions) name → ⊥
NeedsActive model decisions (Merge token target) = IsActive model decisions target → ⊥
NeedsActive model decisions (Order one other) =
    (IsActive model decisions one → ⊥) ⊎ (IsActive model decisions other → ⊥)
NeedsActive model decisions (Constrain kind arguments) =
    All (ArgumentCounts model (IsTaken decisions)) (map argument_of arguments) → ⊥
NeedsActive model decisions (Relate relation one other) =
    TokenCounts model (IsTaken decisions) one × TokenCounts model (IsTaken decisions) other → ⊥
NeedsActive model decisions decision = ⊥

-- both tokens are of one predicate
pub record HaveSamePredicate (model : Model) (one other : TokenName) : Type 0 where
  pub slot : Slot
  pub other_slot : Slot
  pub has_one : HasToken model one slot
  pub has_other : HasToken model other other_slot
  pub same : slot.pred ≡ other_slot.pred

-- at least so many tokens are active
pub record AreActive (model : Model) (decisions : List Decision) (number : ℕ) : Type 0 where
  pub tokens : List TokenName
  pub distinct : AllPairs (λ one other. one ≢ other) tokens
  pub active : All (IsActive model decisions) tokens
  pub enough : number ≤ length tokens

-- the reason speaks against the decision
abbrev pub Hinders : Model → List Decision → State → Refusal → Decision → Type 0
Hinders model decisions state Unknown decision = IsKnown state decision → ⊥
Hinders model decisions state WrongType (Constrain kind arguments) = Takes (IsOfType model) kind arguments → ⊥
Hinders model decisions state Decided decision = IsAlreadyDecided model decisions decision
Hinders model decisions state NotInDomain (Specify name value) = IsDeclared model name value → ⊥
Hinders model decisions state NotInDomain (Constrain kind arguments) = Takes (IsInType model) kind arguments → ⊥
Hinders model decisions state NotActive decision = NeedsActive model decisions decision
Hinders model decisions state NotSamePredicate (Merge token target) = HaveSamePredicate model token target → ⊥
Hinders model decisions state NotRejectable (Reject token) = IsRejectable model token → ⊥
Hinders model decisions state SameToken (Order one other) = one ≡ other
Hinders model decisions state SameToken (Relate relation one other) = one ≡ other
Hinders model decisions state ActiveFull (Activate token) = AreActive model decisions 512
Hinders model decisions state reason decision = ⊥

module _ (model : Model) (decisions : List Decision) (state : State) (decision : Decision) where
  -- the reason speaks against the decision, and none that is looked for earlier does
  pub record IsFirstRefusal (reason : Refusal) : Type 0 where
    pub hinders : Hinders model decisions state reason decision
    pub first : (earlier : Refusal)
        → rank_of earlier < rank_of reason → Hinders model decisions state earlier decision → ⊥

-- the decisions leave a least state, and there the decision is refused for this reason
pub record IsRefused (model : Model) (decisions : List Decision) (decision : Decision) (reason : Refusal) : Type 0 where
  pub state : State
  pub least : IsLeast model decisions state
  pub refusal : IsFirstRefusal model decisions state decision reason

-- the decisions leave a least state, and no reason speaks against the decision there
pub record IsAdmissible (model : Model) (decisions : List Decision) (decision : Decision) : Type 0 where
  pub state : State
  pub least : IsLeast model decisions state
  pub free : (reason : Refusal) → Hinders model decisions state reason decision → ⊥
