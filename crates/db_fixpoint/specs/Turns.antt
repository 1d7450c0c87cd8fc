-- Tokens that take turns on a timeline.
use Rattle.std.specs.Prelude.{◌≡◌, ◌⊎◌, ℕ, ◌<◌, ℤ, List, ◌++◌, Option, MatchOption, All, Contains, length}
use Rattle.eu_name.specs.declared.name.TokenName.{TokenName}
use Rattle.eu_name.specs.declared.name.VarName.{VarName}
use Rattle.model_core.specs.declared.decision.Decision.{Decision}
use Rattle.model_core.specs.declared.model.Model.{Model}
use Rattle.model_core.specs.State.{State}
use Rattle.token_store.specs.Orders.{name_at}
use Rattle.token_store.specs.Tokens.{tokens_now}
use Rattle.constraint_net.specs.declared.constraint.Constraint as posts
use Rattle.plan_defs.specs.Claims.{Claim}
use Rattle.plan_defs.specs.Laws.{HaveToTurn}
use Rattle.plan_defs.specs.Timelines.{EndsTooLate}
use Rattle.db_refine.specs.Claims.{SaysClaim, IsPostedIn}
use Rattle.model_core.specs.Content.{shown}
use Rattle.db_refine.specs.Growth.{ends_before}
use Rattle.plan_defs.specs.Unordered.{AreDecidedOnce, IsActiveOn}
use Rattle.db_store.specs.Stores.{Stored, snapshot_of}
use Rattle.db_posting.specs.Counting.{AreTokenStates}
use Rattle.db_posting.specs.Origins.{content_now}

-- but for the latest mark nothing changes
abbrev pub OnlyMarks : Stored → Stored → Type 0
OnlyMarks old new = new ≡ record old { net = record old.net { marked = new.net.marked } }

-- but for the constraints of the network and the latest mark nothing changes
abbrev pub PostsOrMarks : Stored → Stored → Type 0
PostsOrMarks old new =
    new ≡ record old { net = record old.net { constraints = new.net.constraints; marked = new.net.marked } }

-- the decisions have made the states of the tokens, and decide each token once
pub record HaveDecided (model : Model) (decisions : List Decision) (stored : Stored) : Type 0 where
  pub states : AreTokenStates model decisions (snapshot_of stored)
  pub once : AreDecidedOnce model decisions

-- the timeline is found on which the token at the place is active, where it can be on no other object
abbrev pub FindsTimeline : Model → Stored → ℕ → Option ℤ → Type 0
FindsTimeline model stored place found =
    (decisions : List Decision) → HaveDecided model decisions stored
    → let content = content_now stored in MatchOption found
    ((timeline : ℤ) → IsActiveOn model decisions (shown content) (name_at content.tokens place) timeline → ⊥)
    (IsActiveOn model decisions (shown content) (name_at content.tokens place))

-- behind the constraints that were there come some that each say one of these claims, and each of these claims is said
pub record SeesToClaims (names : List VarName) (Said : Claim → Type 0) (old new : List posts.Constraint) : Type 0 where
  pub later : List posts.Constraint
  pub behind : new ≡ old ++ later
  pub each : All (λ constraint. (claim : Claim) × SaysClaim names constraint claim × Said claim) later
  pub all : (claim : Claim) → Said claim → IsPostedIn names new claim

-- the claim is that the other token ends before the one starts, which can't end before the other starts
abbrev pub SaysTurn : State → TokenName → TokenName → Claim → Type 0
SaysTurn state one other claim = EndsTooLate state one other × (claim ≡ ends_before other one)

-- it says in which order the two tokens have to be
abbrev pub IsTurnOf : Model → List Decision → State → TokenName → TokenName → Claim → Type 0
IsTurnOf model decisions state one other claim =
    (HaveToTurn model decisions state one other × (claim ≡ ends_before other one))
    ⊎ (HaveToTurn model decisions state other one × (claim ≡ ends_before one other))

-- the tokens at these two places take turns
abbrev pub TakeTheirTurns : Model → ℕ → ℕ → Stored → Stored → Type 0
TakeTheirTurns model one other old new =
    (decisions : List Decision) → HaveDecided model decisions old
    → let content = content_now old in
    SeesToClaims content.names
    (IsTurnOf model decisions (shown content) (name_at content.tokens one) (name_at content.tokens other))
    old.net.constraints new.net.constraints

-- the token at the one place takes turns with each token at one of the others
abbrev pub TakesTurnsAmong : Model → ℕ → List ℕ → Stored → Stored → Type 0
TakesTurnsAmong model one others old new =
    (decisions : List Decision) → HaveDecided model decisions old
    → let content = content_now old in
    SeesToClaims content.names (λ claim. (other : ℕ) × Contains others other × (other < length (tokens_now old.past))
    × IsTurnOf model decisions (shown content) (name_at content.tokens one) (name_at content.tokens other) claim)
    old.net.constraints new.net.constraints

-- and with all tokens
abbrev pub TakesTurns : Model → ℕ → Stored → Stored → Type 0
TakesTurns model one old new =
    (decisions : List Decision) → HaveDecided model decisions old
    → let content = content_now old in
    SeesToClaims content.names
    (λ claim. (other : TokenName) × IsTurnOf model decisions (shown content) (name_at content.tokens one) other claim)
    old.net.constraints new.net.constraints
