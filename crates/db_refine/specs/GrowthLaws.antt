-- What is proved of the growth.
use Rattle.std.specs.Prelude.{◌⊎◌, List, [], ◌++◌, Contains, Result, Ok, Err}
use Rattle.domain_core.specs.Domain.{Domain}
use Rattle.eu_name.specs.declared.name.TokenName.{TokenName}
use Rattle.eu_name.specs.declared.name.VarName.{VarName}
use Rattle.model_core.specs.declared.decision.Decision.{Decision}
use Rattle.model_core.specs.declared.model.Model.{Model}
use Rattle.model_core.specs.declared.variable.Base.TheVariants.{Void}
use Rattle.model_core.specs.Blocks.{TokenBlock}
use Rattle.model_core.specs.Entries.{Entries}
use Rattle.model_core.specs.State.{State, IsAbout, IsState, IsBelow}
use Rattle.model_core.specs.Variables.{HasBase}
use Rattle.narrow_core.specs.declared.field.Field.{Field}
use Rattle.constraint_net.specs.Networks.{AllConsistent}
use Rattle.constraint_net.specs.Steps.{PropagatesTo}
use Rattle.constraint_net.specs.declared.NetFault.{NetFault}
use Rattle.constraint_net.specs.declared.NetFault.TheVariants.{Collapsed, Memory}
use Rattle.constraint_net.specs.declared.constraint.Constraint.{Constraint}
use Rattle.plan_defs.specs.Claims.{Claim, IsClaim}
use Rattle.plan_defs.specs.Closure.{IsPropagatedState, IsLeast, IsCollapsed, AreInPlace}
use Rattle.plan_defs.specs.Laws.{HaveToTurn}
use Rattle.plan_defs.specs.Resources.{FitReusables, FitReservoirs}
use Rattle.plan_defs.specs.Situations.{situation_of}
use Rattle.plan_defs.specs.Support.{IsSupportedToken, IsSupportedBlock}
use Rattle.model_core.specs.Content.{Content, shown, IsContent, AreAlike}
use Rattle.db_refine.specs.Claims.{IsOwed, AreOwed, AreFieldsOf}
use Rattle.db_refine.specs.Growth.{IsAboveAll, LeaveNothing, Grows, HasGrown, ends_before, IsWhole}

-- ---- states in order

-- a content has a state of the model that is like it
abbrev pub ContentsAreStates : Type 0
ContentsAreStates =
    (model : Model) (content : Content) → IsContent model content
    → (state : State) × IsState model state × AreAlike (shown content) state

-- ---- staying above

-- an empty content is above all states
abbrev pub NothingIsAboveAll : Type 0
NothingIsAboveAll =
    (model : Model) (decisions : List Decision)
    → IsAboveAll model decisions (record { tokens = []; blocks = []; names = []; domains = [] })

-- a content that grows stays above all propagated states
abbrev pub GrowingStaysAbove : Type 0
GrowingStaysAbove =
    (model : Model) (decisions : List Decision) (old new : Content)
    → IsContent model new → Grows model decisions old new
    → IsAboveAll model decisions old → IsAboveAll model decisions new

-- what is above all that is propagated for a list is above all that is so for a longer one
abbrev pub LongerListsStayBelow : Type 0
LongerListsStayBelow =
    (model : Model) (front back : List Decision) (content : Content)
    → IsAboveAll model front content → IsAboveAll model (front ++ back) content

-- and what is owed stays so
abbrev pub LongerListsOweAsMuch : Type 0
LongerListsOweAsMuch =
    (model : Model) (front back : List Decision) (claim : Claim)
    → IsOwed model front claim → IsOwed model (front ++ back) claim

-- a variable that a content asks for can't have a void base
abbrev pub VoidLeavesNothing : Type 0
VoidLeavesNothing =
    (model : Model) (decisions : List Decision) (state : State) (name : VarName)
    → IsPropagatedState model decisions state → IsAbout model state name → HasBase model name Void → ⊥

-- what propagating a network of what is owed answers and leaves
abbrev pub KeepsAbove : Model → List Decision → Result (Unit {0}) NetFault → Content → Type 0
KeepsAbove model decisions (Ok done) new = IsAboveAll model decisions new
KeepsAbove model decisions (Err Memory) new = IsAboveAll model decisions new
KeepsAbove model decisions (Err Collapsed) new = LeaveNothing model decisions

-- the content with other domains
abbrev pub with_domains : Content → List Domain → Content
with_domains content domains = record content { domains = domains }

-- propagating a network of what is owed stays above all propagated states, and where nothing is left there are none
abbrev pub PropagationStaysAbove : Type 0
PropagationStaysAbove =
    (model : Model) (decisions : List Decision) (tables : List Field) (posted : List Constraint) (content : Content)
    (result : Result (Unit {0}) NetFault) (domains : List Domain)
    → IsContent model content → AreFieldsOf model tables → AreOwed model decisions content.names posted
    → IsAboveAll model decisions content → PropagatesTo (AllConsistent tables posted) content.domains result domains
    → KeepsAbove model decisions result (with_domains content domains)

-- ---- what is owed

-- what a content above all claims, and that tokens take turns on timelines, is owed
pub record IsOwedBelow (model : Model) (decisions : List Decision) (content : Content) : Type 0 where
  pub tokens : (token : TokenName) → IsSupportedToken model (situation_of decisions (shown content)) token
      → (state : State) → IsPropagatedState model decisions state → Contains state.tokens token
  pub blocks : (block : TokenBlock) (entries : Entries)
      → IsSupportedBlock model (situation_of decisions (shown content)) block entries
      → (state : State) → IsPropagatedState model decisions state → Contains state.blocks block
  pub claims : (claim : Claim) → IsClaim model decisions (shown content) claim → IsOwed model decisions claim
  pub turns : (one other : TokenName)
      → HaveToTurn model decisions (shown content) one other → IsOwed model decisions (ends_before other one)

abbrev pub WhatIsAskedIsOwed : Type 0
WhatIsAskedIsOwed =
    (model : Model) (decisions : List Decision) (content : Content)
    → IsContent model content → IsAboveAll model decisions content → IsOwedBelow model decisions content

-- ---- at the end

-- what is supported is there
pub record HasAllSupported (model : Model) (decisions : List Decision) (content : Content) : Type 0 where
  pub tokens : (token : TokenName)
      → IsSupportedToken model (situation_of decisions (shown content)) token → Contains content.tokens token
  pub blocks : (block : TokenBlock) (entries : Entries)
      → IsSupportedBlock model (situation_of decisions (shown content)) block entries → Contains content.blocks block

-- what has grown has all that is supported
abbrev pub GrownHasAll : Type 0
GrownHasAll =
    (model : Model) (decisions : List Decision) (content : Content)
    → HasGrown model decisions content → HasAllSupported model decisions content

-- a whole content is a propagated state, but for its order
abbrev pub WholeIsPropagated : Type 0
WholeIsPropagated =
    (model : Model) (decisions : List Decision) (tables : List Field) (posted : List Constraint) (content : Content)
    → IsWhole model decisions tables posted content
    → (state : State) × AreAlike (shown content) state × IsPropagatedState model decisions state

-- ---- resources

-- what lies in a lower state's resources fits in the higher one: no token uses less further down
abbrev pub ReusablesFitAbove : Type 0
ReusablesFitAbove =
    (model : Model) (decisions : List Decision) (high low : State)
    → IsState model high → IsState model low → IsBelow high low
    → FitReusables model decisions low → FitReusables model decisions high

-- where no further token can come in the higher of two propagated states, the lower one can come of no others, and a reservoir
-- that fits further down fits
abbrev pub ReservoirsFitAbove : Type 0
ReservoirsFitAbove =
    (model : Model) (decisions : List Decision) (high low : State)
    → IsPropagatedState model decisions high → IsPropagatedState model decisions low → IsBelow high low
    → AreInPlace model decisions high
    → FitReservoirs model decisions low → FitReservoirs model decisions high

-- a propagated state that is above all others is the least closed one if resources fit, and else there is no closed state
pub record IsTop (model : Model) (decisions : List Decision) (state : State) : Type 0 where
  pub consistent : IsPropagatedState model decisions state
  pub above : (other : State) → IsPropagatedState model decisions other → IsBelow state other
  pub in_place : AreInPlace model decisions state

-- what looking at resources finds: that they fit, or that some don't
abbrev pub ResourcesDecide : Type 0
ResourcesDecide =
    (model : Model) (decisions : List Decision) (state : State) → IsTop model decisions state
    → (FitReusables model decisions state → FitReservoirs model decisions state → IsLeast model decisions state)
    × (((FitReusables model decisions state → ⊥) ⊎ (FitReservoirs model decisions state → ⊥)) → IsCollapsed model decisions)
