-- Tokens don't use more of a reusable than it has, and the level of a reservoir stays within its limits.
use Rattle.std.specs.Prelude.{◌≡◌, ◌⊎◌, ℤ, pos, ◌+ℤ◌, ◌≤ℤ◌, ◌<ℤ◌, List, Some, slice_get, Contains}
use Rattle.std.specs.List.{AllZip}
use Rattle.domain_core.specs.Domain.{Domain, Has, least, greatest}
use Rattle.eu_name.specs.declared.name.Part.TheVariants.{Start, End, Object, Param}
use Rattle.eu_name.specs.declared.name.TokenName.{TokenName}
use Rattle.eu_name.specs.declared.name.VarName.TheVariants.{Token}
use Rattle.model_core.specs.declared.class.Object as classes
use Rattle.model_core.specs.declared.class.ObjectKind.TheVariants.{Reusable, Reservoir}
use Rattle.model_core.specs.declared.class.Pred.{Pred}
use Rattle.model_core.specs.declared.class.PredKind.{PredKind}
use Rattle.model_core.specs.declared.class.PredKind.TheVariants.{Uses, Produce, Consume}
use Rattle.model_core.specs.declared.decision.Decision.{Decision}
use Rattle.model_core.specs.declared.item.Term.{Term}
use Rattle.model_core.specs.declared.item.Term.TheVariants as term
use Rattle.model_core.specs.declared.model.Model.{Model}
use Rattle.model_core.specs.declared.rule.Guard.{Guard}
use Rattle.model_core.specs.declared.rule.Side.{Side}
use Rattle.model_core.specs.declared.rule.Side.TheVariants.{Then, Otherwise}
use Rattle.model_core.specs.declared.rule.Slot.{Slot}
use Rattle.model_core.specs.Blocks.{TokenBlock, direct, OfBranch}
use Rattle.model_core.specs.Decided.{IsActive, IsRejected, IsDecided}
use Rattle.model_core.specs.Entries.{Entries}
use Rattle.model_core.specs.Kinds.{IsObject}
use Rattle.model_core.specs.State.{State, Gives}
use Rattle.model_core.specs.Tokens.{HasToken, IsRejectable, root_token}
use Rattle.plan_defs.specs.Situations.{situation_of}
use Rattle.plan_defs.specs.Sums.{sum_of}
use Rattle.plan_defs.specs.Support.{Opens, IsSupportedToken, IsSupportedBlock, one_side, other_side}
use Rattle.plan_defs.specs.Terms.{InRule}
use Rattle.plan_defs.specs.Timelines.{IsOn}

-- an instant lies in the horizon, both ends included
abbrev pub IsInstant : Model → ℤ → Type 0
IsInstant model instant = (model.problem.start ≤ℤ instant) × (instant ≤ℤ model.problem.end)

-- an active token of a predicate of this kind
pub record IsActor (model : Model) (decisions : List Decision) (kind : PredKind) (token : TokenName) : Type 0 where
  pub active : IsActive model decisions token
  pub slot : Slot
  pub has_token : HasToken model token slot
  pub predicate : Pred
  pub is_predicate : slice_get model.preds slot.pred ≡ Some predicate
  pub is_kind : predicate.kind ≡ kind

-- the token may be on this object
abbrev pub MayBeOn : State → TokenName → ℤ → Type 0
MayBeOn state token object = (domain : Domain) × Gives state (Token token Object) domain × Has domain object

-- the token has started by then, whenever it starts
abbrev pub HasStarted : State → TokenName → ℤ → Type 0
HasStarted state token instant =
    (domain : Domain) × Gives state (Token token Start) domain × (greatest domain ≤ℤ instant)

-- the token may have started by then
abbrev pub MayHaveStarted : State → TokenName → ℤ → Type 0
MayHaveStarted state token instant =
    (domain : Domain) × Gives state (Token token Start) domain × (least domain ≤ℤ instant)

-- the token hasn't ended by then, whenever it ends
abbrev pub HasNotEnded : State → TokenName → ℤ → Type 0
HasNotEnded state token instant =
    (domain : Domain) × Gives state (Token token End) domain × (instant <ℤ least domain)

-- the token's least quantity
abbrev pub IsLeastQuantity : State → TokenName → ℤ → Type 0
IsLeastQuantity state token quantity =
    (domain : Domain) × Gives state (Token token (Param 0)) domain × (quantity ≡ least domain)

-- the token's greatest quantity
abbrev pub IsGreatestQuantity : State → TokenName → ℤ → Type 0
IsGreatestQuantity state token quantity =
    (domain : Domain) × Gives state (Token token (Param 0)) domain × (quantity ≡ greatest domain)

-- ---- what each token does to an object by an instant

module _ (model : Model) (decisions : List Decision) (state : State) (object instant : ℤ) where
  -- the token surely uses the object at the instant, at least this quantity
  pub record SurelyUses (token : TokenName) (quantity : ℤ) : Type 0 where
    pub actor : IsActor model decisions Uses token
    pub on : IsOn state token object
    pub started : HasStarted state token instant
    pub not_ended : HasNotEnded state token instant
    pub least : IsLeastQuantity state token quantity

  -- a share of the capacity that is enough for what the token surely uses
  pub record IsShare (token : TokenName) (share : ℤ) : Type 0 where
    pub none : pos 0 ≤ℤ share
    pub enough : (quantity : ℤ) → SurelyUses token quantity → quantity ≤ℤ share

  -- what changes a level for sure by the instant, by at least this quantity: a production or a consumption that has started
  pub record SurelyChanges (kind : PredKind) (token : TokenName) (quantity : ℤ) : Type 0 where
    pub actor : IsActor model decisions kind token
    pub on : IsOn state token object
    pub started : HasStarted state token instant
    pub least : IsLeastQuantity state token quantity

  -- what may change a level by the instant, by at most this quantity
  pub record MayChange (kind : PredKind) (token : TokenName) (quantity : ℤ) : Type 0 where
    pub actor : IsActor model decisions kind token
    pub on : MayBeOn state token object
    pub started : MayHaveStarted state token instant
    pub greatest : IsGreatestQuantity state token quantity

  -- a change is at most what the token may produce: nothing, or its greatest quantity
  abbrev AddsAtMost : TokenName → ℤ → Type 0
  AddsAtMost token change =
      (change ≤ℤ pos 0) ⊎ ((quantity : ℤ) × MayChange Produce token quantity × (change ≤ℤ quantity))

  -- a change is at least what the token may consume: nothing, or its greatest quantity
  abbrev TakesAtMost : TokenName → ℤ → Type 0
  TakesAtMost token change =
      (pos 0 ≤ℤ change) ⊎ ((quantity : ℤ) × MayChange Consume token quantity × (pos 0 ≤ℤ (change +ℤ quantity)))

  -- a change that isn't higher than the token can make it: a consumption that has started takes at least its least quantity
  pub record IsHighChange (token : TokenName) (change : ℤ) : Type 0 where
    pub adds : AddsAtMost token change
    pub takes : (quantity : ℤ) → SurelyChanges Consume token quantity → (change +ℤ quantity) ≤ℤ pos 0

  -- the mirror image: a production that has started adds at least its least quantity
  pub record IsLowChange (token : TokenName) (change : ℤ) : Type 0 where
    pub takes : TakesAtMost token change
    pub adds : (quantity : ℤ) → SurelyChanges Produce token quantity → quantity ≤ℤ change

  -- the greatest change that the token can make: all that it may produce, or what it surely consumes, taken away
  abbrev pub HasGreatestChange : TokenName → ℤ → Type 0
  HasGreatestChange token change =
      MayChange Produce token change
      ⊎ ((quantity : ℤ) × SurelyChanges Consume token quantity × (change +ℤ quantity ≡ pos 0))

  -- the least change: what it surely produces, or all that it may consume, taken away
  abbrev pub HasLeastChange : TokenName → ℤ → Type 0
  HasLeastChange token change =
      SurelyChanges Produce token change
      ⊎ ((quantity : ℤ) × MayChange Consume token quantity × (change +ℤ quantity ≡ pos 0))

  -- what the tokens surely use isn't more than the capacity: it suffices for a share for each
  pub record KeepsCapacity (capacity : ℤ) : Type 0 where
    pub shares : List ℤ
    pub are_shares : AllZip IsShare state.tokens shares
    pub enough : sum_of shares ≤ℤ capacity

  -- the level can be as high as its lower limit, and as low as its upper one
  pub record StaysWithin (initial low high : ℤ) : Type 0 where
    pub rises : List ℤ
    pub are_rises : AllZip IsHighChange state.tokens rises
    pub high_enough : low ≤ℤ (initial +ℤ sum_of rises)
    pub falls : List ℤ
    pub are_falls : AllZip IsLowChange state.tokens falls
    pub low_enough : (initial +ℤ sum_of falls) ≤ℤ high

-- ---- reusables

-- what the tokens surely use at an instant of a reusable isn't more than its capacity
abbrev pub FitReusables : Model → List Decision → State → Type 0
FitReusables model decisions state =
    (value : ℤ) (object : classes.Object) (capacity instant : ℤ)
    → IsObject model value object → object.kind ≡ Reusable capacity → IsInstant model instant
    → KeepsCapacity model decisions state value instant capacity

-- ---- reservoirs

-- the term is a part of a rejectable root that is rejected
abbrev pub IsOfRejected : Model → List Decision → Term → Type 0
IsOfRejected model decisions (term.Root number part) =
    IsRejectable model (root_token number) × IsRejected decisions (root_token number)
IsOfRejected model decisions term = ⊥

-- the guard opens the block on this side, where it stands in a block of the token and the rule
abbrev pub OpensIn : Model → List Decision → State → TokenBlock → Guard → Side → Type 0
OpensIn model decisions state block guard side =
    Opens model (situation_of decisions state) (InRule block.token block.rule) guard side

-- which way the guard goes is certain, or no way counts, as it names a root that is rejected
abbrev pub IsCertain : Model → List Decision → State → TokenBlock → Guard → Type 0
IsCertain model decisions state block guard =
    (OpensIn model decisions state block guard Then ⊎ OpensIn model decisions state block guard Otherwise)
    ⊎ (IsOfRejected model decisions (one_side guard) ⊎ IsOfRejected model decisions (other_side guard))

-- no further token can come: what becomes of each is decided, and which way each guard in an open block goes is certain
pub record IsTokenComplete (model : Model) (decisions : List Decision) (state : State) : Type 0 where
  pub tokens : (token : TokenName)
      → IsSupportedToken model (situation_of decisions state) token → IsDecided model decisions token
  pub guards : (block : TokenBlock) (entries : Entries) (guard : Guard) (then otherwise : Entries)
      → IsSupportedBlock model (situation_of decisions state) block entries
      → Contains (direct entries) (OfBranch guard then otherwise) → IsCertain model decisions state block guard

-- once no further token can come, the level of each reservoir can stay within its limits at each instant by itself
abbrev pub FitReservoirs : Model → List Decision → State → Type 0
FitReservoirs model decisions state =
    IsTokenComplete model decisions state
    → (value : ℤ) (object : classes.Object) (initial low high instant : ℤ)
    → IsObject model value object → object.kind ≡ Reservoir initial low high → IsInstant model instant
    → StaysWithin model decisions state value instant initial low high
