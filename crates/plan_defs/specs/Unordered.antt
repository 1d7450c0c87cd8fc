-- Active tokens on one timeline that have no order.
use Rattle.std.specs.Prelude.{ℕ, ◌<◌, ◌≤◌, ℤ, ◌<ℤ◌, List, Option, MatchOption, Contains, ⊤}
use Rattle.domain_core.specs.Domain.{Domain, least, greatest}
use Rattle.eu_name.specs.declared.name.Part.TheVariants.{Start, End}
use Rattle.eu_name.specs.declared.name.TokenName.{TokenName}
use Rattle.eu_name.specs.declared.name.VarName.TheVariants.{Token}
use Rattle.eu_name.specs.NameOrder.{ByNumber}
use Rattle.model_core.specs.declared.decision.Decision.{Decision}
use Rattle.model_core.specs.declared.decision.Decision.TheVariants.{Order}
use Rattle.model_core.specs.declared.model.Model.{Model}
use Rattle.model_core.specs.declared.view.TokenState.{TokenState}
use Rattle.model_core.specs.declared.view.TokenState.TheVariants.{Inactive, Active, Fact, Merged, Rejected}
use Rattle.model_core.specs.Decided.{IsActive, IsMerged, IsRejected}
use Rattle.model_core.specs.State.{State, Gives}
use Rattle.model_core.specs.Views.{IsTokenAt}
use Rattle.plan_defs.specs.Settling.{IsSettled}
use Rattle.plan_defs.specs.Timelines.{IsOn, IsTimeline, ShareTimeline}

-- what takes place is neither merged nor rejected
abbrev pub AreDecidedOnce : Model → List Decision → Type 0
AreDecidedOnce model decisions =
    (token : TokenName) → IsActive model decisions token → (IsMerged decisions token → ⊥) × (IsRejected decisions token → ⊥)

-- a token in this state takes place by itself
abbrev pub TakesPlace : TokenState → Type 0
TakesPlace Active = ⊤
TakesPlace Fact = ⊤
TakesPlace Inactive = ⊥
TakesPlace (Merged place) = ⊥
TakesPlace Rejected = ⊥

-- the token is active, on this timeline, and can be on no other object
pub record IsActiveOn (model : Model) (decisions : List Decision) (state : State) (token : TokenName) (timeline : ℤ) : Type 0 where
  pub active : IsActive model decisions token
  pub is_timeline : IsTimeline model timeline
  pub on : IsOn state token timeline

-- the one token may end after the other starts: its greatest end is greater than the other's least start
pub record MayOverrun (state : State) (one other : TokenName) : Type 0 where
  pub end : Domain
  pub start : Domain
  pub gives_end : Gives state (Token one End) end
  pub gives_start : Gives state (Token other Start) start
  pub late : least start <ℤ greatest end

-- the decisions put neither of the two before the other, and either may end after the other starts
pub record HaveNoOrder (decisions : List Decision) (state : State) (one other : TokenName) : Type 0 where
  pub not_before : Contains decisions (Order one other) → ⊥
  pub not_after : Contains decisions (Order other one) → ⊥
  pub overruns : MayOverrun state one other
  pub overrun : MayOverrun state other one

-- two active tokens on one timeline have no order
pub record AreUnordered (model : Model) (decisions : List Decision) (state : State) (one other : TokenName) : Type 0 where
  pub share : ShareTimeline model decisions state one other
  pub no_order : HaveNoOrder decisions state one other

-- the tokens at these two places of the state, of which the one comes before the other, are such
pub record IsPairAt (model : Model) (decisions : List Decision) (state : State) (one other : ℕ) : Type 0 where
  pub before : one < other
  pub first : TokenName
  pub second : TokenName
  pub first_at : IsTokenAt state one first
  pub second_at : IsTokenAt state other second
  pub unordered : AreUnordered model decisions state first second

-- the place is the first at which the other of such a pair is, or there is none
abbrev pub IsPartner : Model → List Decision → State → ℕ → Option ℕ → Type 0
IsPartner model decisions state one found = MatchOption found
    ((other : ℕ) → IsPairAt model decisions state one other → ⊥)
    (λ other. IsPairAt model decisions state one other × ((n : ℕ) → IsPairAt model decisions state one n → other ≤ n))

-- these are the first two such places: the one is the least, and then the other
pub record IsFirstPair (model : Model) (decisions : List Decision) (state : State) (one other : ℕ) : Type 0 where
  pub is_pair : IsPairAt model decisions state one other
  pub first : (m n : ℕ) → IsPairAt model decisions state m n → ByNumber one m (other ≤ n)

-- what a settled list of decisions lets take place is neither merged nor rejected
abbrev pub SettledListsDecideOnce : Type 0
SettledListsDecideOnce = (model : Model) (decisions : List Decision) → IsSettled model decisions → AreDecidedOnce model decisions
