-- Tokens of one timeline don't overlap.
use Rattle.std.specs.Prelude.{◌≡◌, ◌≢◌, ℤ, ◌<ℤ◌, List}
use Rattle.domain_core.specs.Domain.{Domain, IsSingle, least, greatest}
use Rattle.eu_name.specs.declared.name.Part.TheVariants.{Start, End, Object}
use Rattle.eu_name.specs.declared.name.TokenName.{TokenName}
use Rattle.eu_name.specs.declared.name.VarName.TheVariants.{Token}
use Rattle.model_core.specs.declared.class.Object as classes
use Rattle.model_core.specs.declared.class.ObjectKind.TheVariants.{Timeline}
use Rattle.model_core.specs.declared.decision.Decision.{Decision}
use Rattle.model_core.specs.declared.model.Model.{Model}
use Rattle.model_core.specs.Decided.{IsActive}
use Rattle.model_core.specs.Kinds.{IsObject}
use Rattle.model_core.specs.State.{State, Gives}
use Rattle.plan_defs.specs.Claims.{part_of, at_most}
use Rattle.plan_defs.specs.Consistency.{IsClaimConsistent}

-- the token is on this object and can be on no other
abbrev pub IsOn : State → TokenName → ℤ → Type 0
IsOn state token object = (domain : Domain) × Gives state (Token token Object) domain × IsSingle domain object

-- the value is the number of a timeline
abbrev pub IsTimeline : Model → ℤ → Type 0
IsTimeline model value = (object : classes.Object) × IsObject model value object × (object.kind ≡ Timeline)

-- the one token can't end before the other starts
pub record EndsTooLate (state : State) (one other : TokenName) : Type 0 where
  pub end : Domain
  pub start : Domain
  pub gives_end : Gives state (Token one End) end
  pub gives_start : Gives state (Token other Start) start
  pub late : greatest start <ℤ least end

-- two active tokens are on one timeline and can be on no other
pub record ShareTimeline (model : Model) (decisions : List Decision) (state : State) (one other : TokenName) : Type 0 where
  pub apart : one ≢ other
  pub one_active : IsActive model decisions one
  pub other_active : IsActive model decisions other
  pub timeline : ℤ
  pub is_timeline : IsTimeline model timeline
  pub one_on : IsOn state one timeline
  pub other_on : IsOn state other timeline

-- the other token can end before the one starts
abbrev pub CanEndBefore : Model → State → TokenName → TokenName → Type 0
CanEndBefore model state other one = IsClaimConsistent model state (at_most (part_of other End) (part_of one Start))

-- of two active tokens on one timeline, where the one can't end before the other starts, the other can end before the one
-- starts
abbrev pub FitTimelines : Model → List Decision → State → Type 0
FitTimelines model decisions state =
    (one other : TokenName) → ShareTimeline model decisions state one other → EndsTooLate state one other
    → CanEndBefore model state other one
