-- Active tokens that use, produce or consume.
use Rattle.std.specs.Prelude.{◌≡◌, ◌≤ℤ◌, pos, List, Some, slice_get, ⊤}
use Rattle.domain_core.specs.Domain.{Domain, least, greatest}
use Rattle.eu_name.specs.declared.name.Part.TheVariants.{Start, End, Param}
use Rattle.eu_name.specs.declared.name.TokenName.{TokenName}
use Rattle.eu_name.specs.declared.name.VarName.TheVariants.{Token}
use Rattle.model_core.specs.declared.class.Pred.{Pred}
use Rattle.model_core.specs.declared.class.PredKind.{PredKind}
use Rattle.model_core.specs.declared.class.PredKind.TheVariants.{Plain}
use Rattle.model_core.specs.declared.decision.Decision.{Decision}
use Rattle.model_core.specs.declared.model.Model.{Model}
use Rattle.model_core.specs.declared.rule.Slot.{Slot}
use Rattle.model_core.specs.Lawful.{IsLawful}
use Rattle.model_core.specs.State.{State, Gives, IsState}
use Rattle.model_core.specs.Tokens.{HasToken}
use Rattle.model_core.specs.Views.{IsTokenAt}
use Rattle.plan_defs.specs.Closure.{AreInBase}
use Rattle.plan_defs.specs.Resources.{IsActor}
use Rattle.db_resources.specs.declared.actor.Actor.{Actor}
use Rattle.plan_defs.specs.Unordered.{AreDecidedOnce}

-- what is asked of what is looked at: a lawful model, a state of it within its bases, and decisions that decide each token once
pub record IsSoundView (model : Model) (decisions : List Decision) (state : State) : Type 0 where
  pub lawful : IsLawful model
  pub is_state : IsState model state
  pub in_base : AreInBase model state
  pub once : AreDecidedOnce model decisions

-- tokens of a predicate of this kind do something to resources
abbrev pub IsRole : PredKind → Type 0
IsRole Plain = ⊥
IsRole kind = ⊤

-- the token is of a predicate of this kind, and does something to resources
pub record HasRole (model : Model) (token : TokenName) (kind : PredKind) : Type 0 where
  pub is_role : IsRole kind
  pub slot : Slot
  pub has_token : HasToken model token slot
  pub predicate : Pred
  pub is_predicate : slice_get model.preds slot.pred ≡ Some predicate
  pub is_kind : predicate.kind ≡ kind

-- the place is that of the token, and the numbers are the ends of its start and of its quantity, and the least of its end
pub record IsMeasured (state : State) (token : TokenName) (actor : Actor) : Type 0 where
  pub at : IsTokenAt state actor.place token
  pub start : Domain
  pub end : Domain
  pub quantity : Domain
  pub gives_start : Gives state (Token token Start) start
  pub gives_end : Gives state (Token token End) end
  pub gives_quantity : Gives state (Token token (Param 0)) quantity
  pub start_lo : actor.start_lo ≡ least start
  pub start_hi : actor.start_hi ≡ greatest start
  pub end_lo : actor.end_lo ≡ least end
  pub quantity_lo : actor.quantity_lo ≡ least quantity
  pub quantity_hi : actor.quantity_hi ≡ greatest quantity

-- the token is active and does something to resources, with these ends
pub record IsActorOf (model : Model) (decisions : List Decision) (state : State) (token : TokenName) (actor : Actor) : Type 0 where
  pub is_role : IsRole actor.kind
  pub acts : IsActor model decisions actor.kind token
  pub measured : IsMeasured state token actor

-- the quantities are from 0 to a million
pub record IsBounded (actor : Actor) : Type 0 where
  pub lo : pos 0 ≤ℤ actor.quantity_lo
  pub order : actor.quantity_lo ≤ℤ actor.quantity_hi
  pub hi : actor.quantity_hi ≤ℤ pos 1000000
