-- What is proved of the definitions.
use Rattle.std.specs.Prelude.{◌≡◌, ◌↔◌, ◌⊎◌, ℤ, pos, ◌+ℤ◌, ◌≤ℤ◌, List, ◌∷◌, ◌++◌, Contains}
use Rattle.domain_core.specs.Domain.{Domain, IsDomain, IsWithin, least, greatest}
use Rattle.eu_name.specs.declared.name.TokenName.{TokenName}
use Rattle.eu_name.specs.declared.name.VarName.{VarName}
use Rattle.model_core.specs.declared.class.PredKind.TheVariants.{Produce, Consume}
use Rattle.model_core.specs.declared.decision.Decision.{Decision}
use Rattle.model_core.specs.declared.model.Model.{Model}
use Rattle.model_core.specs.Blocks.{TokenBlock}
use Rattle.model_core.specs.Entries.{Entries}
use Rattle.model_core.specs.History.{History}
use Rattle.model_core.specs.State.{State, Gives, IsState, IsBelow}
use Rattle.plan_defs.specs.Claims.{Claim, IsClaim, at_most}
use Rattle.plan_defs.specs.Closure.{IsPropagatedState, IsLeast, IsCollapsed}
use Rattle.plan_defs.specs.Consistency.{IsClaimConsistent}
use Rattle.plan_defs.specs.History.{IsHistory}
use Rattle.plan_defs.specs.Refusals.{IsFirstRefusal}
use Rattle.model_core.specs.declared.refusal.Refusal.{Refusal}
use Rattle.plan_defs.specs.Resources.{SurelyUses, KeepsCapacity, StaysWithin, SurelyChanges, MayChange, HasGreatestChange, HasLeastChange}
use Rattle.plan_defs.specs.Settling.{Settles, IsSettled}
use Rattle.plan_defs.specs.Situations.{situation_of}
use Rattle.plan_defs.specs.Steps.{Approaches, AreSteps, SetsDomain, last_of}
use Rattle.plan_defs.specs.Sums.{Amount, ListsAll, sum_of_amounts}
use Rattle.plan_defs.specs.Support.{IsSupportedToken, IsSupportedBlock}
use Rattle.plan_defs.specs.Terms.{Variable}
use Rattle.plan_defs.specs.Timelines.{ShareTimeline, EndsTooLate, CanEndBefore}

-- ---- least states

-- decisions leave one least state at most
abbrev pub LeastIsOne : Type 0
LeastIsOne =
    (model : Model) (decisions : List Decision) (one other : State)
    → IsLeast model decisions one → IsLeast model decisions other → one ≡ other

-- where they leave one they don't collapse
abbrev pub LeastIsNotCollapsed : Type 0
LeastIsNotCollapsed =
    (model : Model) (decisions : List Decision) (state : State)
    → IsLeast model decisions state → IsCollapsed model decisions → ⊥

-- ---- lower states

-- to lie below is an order on the states of a model
abbrev pub BelowIsReflexive : Type 0
BelowIsReflexive = (state : State) → IsBelow state state

-- what lies below a lower state lies below
abbrev pub BelowIsTransitive : Type 0
BelowIsTransitive = (high middle low : State) → IsBelow high middle → IsBelow middle low → IsBelow high low

-- states that lie below each other are one
abbrev pub BelowIsAntisymmetric : Type 0
BelowIsAntisymmetric =
    (model : Model) (one other : State)
    → IsState model one → IsState model other → IsBelow one other → IsBelow other one → one ≡ other

-- what the higher state asks for, the lower one asks for too
pub record AsksAsMuch (model : Model) (decisions : List Decision) (high low : State) : Type 0 where
  pub tokens : (token : TokenName)
      → IsSupportedToken model (situation_of decisions high) token
      → IsSupportedToken model (situation_of decisions low) token
  pub blocks : (block : TokenBlock) (entries : Entries)
      → IsSupportedBlock model (situation_of decisions high) block entries
      → IsSupportedBlock model (situation_of decisions low) block entries
  pub claims : (claim : Claim) → IsClaim model decisions high claim → IsClaim model decisions low claim

-- what is asked for is asked for in all states below
abbrev pub WhatIsAskedStays : Type 0
WhatIsAskedStays =
    (model : Model) (decisions : List Decision) (high low : State) → IsBelow high low → AsksAsMuch model decisions high low

-- two tokens have to be in order: they share a timeline, and the one can't end before the other starts
pub record HaveToTurn (model : Model) (decisions : List Decision) (state : State) (one other : TokenName) : Type 0 where
  pub share : ShareTimeline model decisions state one other
  pub late : EndsTooLate state one other

-- what has to be in order has to be in all states below
abbrev pub OrdersStay : Type 0
OrdersStay =
    (model : Model) (decisions : List Decision) (high low : State) (one other : TokenName)
    → IsState model high → IsState model low → IsBelow high low
    → HaveToTurn model decisions high one other → HaveToTurn model decisions low one other

-- the lower state has what the higher one asks for
pub record HasWhatIsAsked (model : Model) (decisions : List Decision) (high low : State) : Type 0 where
  pub tokens : (token : TokenName)
      → IsSupportedToken model (situation_of decisions high) token → Contains low.tokens token
  pub blocks : (block : TokenBlock) (entries : Entries)
      → IsSupportedBlock model (situation_of decisions high) block entries → Contains low.blocks block
  pub claims : (claim : Claim) → IsClaim model decisions high claim → IsClaimConsistent model low claim
  pub orders : (one other : TokenName) → HaveToTurn model decisions high one other → CanEndBefore model low other one

-- each state below that is propagated, or closed, has what is asked for
abbrev pub StatesBelowHaveWhatIsAsked : (Model → List Decision → State → Type 0) → Type 0
StatesBelowHaveWhatIsAsked Fits =
    (model : Model) (decisions : List Decision) (high low : State)
    → IsState model high → Fits model decisions low → IsBelow high low → HasWhatIsAsked model decisions high low

-- a variable's domains in a higher and in a lower state
pub record Lowered (high low : State) (name : VarName) : Type 0 where
  pub above : Domain
  pub below : Domain
  pub gives_above : Gives high name above
  pub gives_below : Gives low name below

-- what the ends are of two variables of which the one is at most the other: each bounds the other
pub record EndsBounded (one_above one_below other_above other_below : Domain) : Type 0 where
  pub greatest_falls : greatest one_below ≤ℤ greatest other_above
  pub least_rises : least one_above ≤ℤ least other_below

-- where a state below has a claim that one variable is at most another, it has no value of the one above the other's greatest,
-- and none of the other below the one's least
abbrev pub ClaimsOfOrderBoundBoth : (Model → List Decision → State → Type 0) → Type 0
ClaimsOfOrderBoundBoth Fits =
    (model : Model) (decisions : List Decision) (high low : State) (one other : VarName)
    → IsState model high → Fits model decisions low → IsBelow high low
    → IsClaim model decisions low (at_most (Variable one) (Variable other))
    → (first : Lowered high low one) (second : Lowered high low other)
    → EndsBounded first.above first.below second.above second.below

-- ---- steps

-- what each step keeps of the fitting states below is kept by any list of steps
abbrev pub StepsAddUp : (Model → List Decision → State → Type 0) → Type 0
StepsAddUp Fits =
    (model : Model) (decisions : List Decision) (old : State) (states : List State)
    → AreSteps model (Fits model decisions) old states → Approaches model (Fits model decisions) old (last_of old states)

-- in all fitting states below the variable's domain lies in this one
abbrev pub AllLieIn : (State → Type 0) → State → VarName → Domain → Type 0
AllLieIn fits state name domain =
    (low : State) (smaller : Domain)
    → fits low → IsBelow state low → Gives low name smaller → IsWithin smaller domain

-- to give a variable a smaller domain is a step where all fitting states below have their domain in it
abbrev pub NarrowingIsAStep : (Model → List Decision → State → Type 0) → Type 0
NarrowingIsAStep Fits =
    (model : Model) (decisions : List Decision) (old new : State) (name : VarName) (domain : Domain)
    → (sets : SetsDomain old name domain new)
    → IsDomain domain → IsWithin domain sets.before → AllLieIn (Fits model decisions) old name domain
    → Approaches model (Fits model decisions) old new

-- ---- lists

-- a state that is propagated for a list is propagated for each front of it
abbrev pub FrontsStayPropagated : Type 0
FrontsStayPropagated =
    (model : Model) (front back : List Decision) (state : State)
    → IsPropagatedState model (front ++ back) state → IsPropagatedState model front state

-- what is left of a list is left of itself
abbrev pub SettlingIsIdempotent : Type 0
SettlingIsIdempotent =
    (model : Model) (decisions settled : List Decision)
    → Settles model decisions settled → IsSettled model settled

-- each front of a settled list has a least state
abbrev pub FrontsHaveLeastStates : Type 0
FrontsHaveLeastStates =
    (model : Model) (front : List Decision) (decision : Decision) (back : List Decision)
    → IsSettled model (front ++ decision ∷ back) → (state : State) × IsLeast model front state

-- the lists of a history are settled
abbrev pub HistoriesAreSettled : Type 0
HistoriesAreSettled =
    (model : Model) (history : History) (decisions : List Decision)
    → IsHistory model history → Contains history decisions → IsSettled model decisions

-- there is one first reason against a decision at most
abbrev pub FirstRefusalIsOne : Type 0
FirstRefusalIsOne =
    (model : Model) (decisions : List Decision) (state : State) (decision : Decision) (one other : Refusal)
    → IsFirstRefusal model decisions state decision one
    → IsFirstRefusal model decisions state decision other → one ≡ other

-- ---- resources

module _ (model : Model) (decisions : List Decision) (state : State) (object instant : ℤ) where
  -- what is listed is what the tokens surely use of the object at the instant, and none of it is less than nothing
  pub record ListsUses (listed : List Amount) : Type 0 where
    pub all : ListsAll (SurelyUses model decisions state object instant) listed
    pub whole : (token : TokenName) (quantity : ℤ)
        → SurelyUses model decisions state object instant token quantity → pos 0 ≤ℤ quantity

  -- what is listed are the greatest and the least changes that the tokens can make to the level of the object by the
  -- instant, and no quantity of them is less than nothing
  pub record ListsChanges (rises falls : List Amount) : Type 0 where
    pub greatest : ListsAll (HasGreatestChange model decisions state object instant) rises
    pub least : ListsAll (HasLeastChange model decisions state object instant) falls
    pub produced : (token : TokenName) (quantity : ℤ)
        → MayChange model decisions state object instant Produce token quantity
        ⊎ SurelyChanges model decisions state object instant Produce token quantity
        → pos 0 ≤ℤ quantity
    pub consumed : (token : TokenName) (quantity : ℤ)
        → MayChange model decisions state object instant Consume token quantity
        ⊎ SurelyChanges model decisions state object instant Consume token quantity
        → pos 0 ≤ℤ quantity

-- there are shares that keep the capacity exactly where the sum of what is surely used keeps it
abbrev pub SharesAreSums : Type 0
SharesAreSums =
    (model : Model) (decisions : List Decision) (state : State) (object instant capacity : ℤ) (listed : List Amount)
    → IsState model state → ListsUses model decisions state object instant listed
    → KeepsCapacity model decisions state object instant capacity ↔ (sum_of_amounts listed ≤ℤ capacity)

-- there are rises and falls that keep a level within its limits exactly where the sum of the greatest changes doesn't
-- leave it below the lower one, nor the sum of the least above the upper one
abbrev pub ChangesAreSums : Type 0
ChangesAreSums =
    (model : Model) (decisions : List Decision) (state : State) (object instant initial low high : ℤ)
    (rises falls : List Amount)
    → IsState model state → ListsChanges model decisions state object instant rises falls
    → StaysWithin model decisions state object instant initial low high
    ↔ ((low ≤ℤ (initial +ℤ sum_of_amounts rises)) × ((initial +ℤ sum_of_amounts falls) ≤ℤ high))
