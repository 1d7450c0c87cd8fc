-- What active tokens do to one object.
use Rattle.std.specs.Prelude.{◌≡◌, ℕ, ℤ, pos, ◌+ℤ◌, Option, Some, None}
use Rattle.eu_name.specs.declared.name.TokenName.{TokenName}
use Rattle.model_core.specs.declared.class.PredKind.{PredKind}
use Rattle.model_core.specs.declared.class.PredKind.TheVariants.{Uses, Produce, Consume}
use Rattle.model_core.specs.State.{State}
use Rattle.model_core.specs.Views.{IsTokenAt}
use Rattle.plan_defs.specs.Resources.{MayBeOn}
use Rattle.plan_defs.specs.Timelines.{IsOn}
use Rattle.db_resources.specs.declared.actor.Actor.{Actor}
use Rattle.db_resources.specs.declared.change.Extreme.{Extreme}
use Rattle.db_resources.specs.declared.change.Extreme.TheVariants.{Highest, Lowest}
use Rattle.resource_profile.specs.declared.level.LevelChange.{LevelChange}
use Rattle.resource_profile.specs.declared.level.Limit.{Limit}
use Rattle.resource_profile.specs.declared.level.Limit.TheVariants.{Low, High}
use Rattle.resource_profile.specs.declared.usage.Use.{Use}

-- the token at the place is on this object and can be on no other
abbrev pub IsOnAt : State → ℕ → ℤ → Type 0
IsOnAt state place object = (token : TokenName) × IsTokenAt state place token × IsOn state token object

-- the token at the place may be on this object
abbrev pub MayBeOnAt : State → ℕ → ℤ → Type 0
MayBeOnAt state place object = (token : TokenName) × IsTokenAt state place token × MayBeOn state token object

-- the second change takes away as much as the first one adds, from the same instant on; or there is neither
abbrev pub IsTurned : Option LevelChange → Option LevelChange → Type 0
IsTurned None found = found ≡ None
IsTurned (Some added) found =
    (taken : LevelChange) × ((found ≡ Some taken) × (taken.at ≡ added.at) × (taken.add +ℤ added.add ≡ pos 0))

-- the level that is past a limit only if all possible ones are
abbrev pub decisive : Limit → Extreme
decisive (Low low) = Highest
decisive (High high) = Lowest

module _ (state : State) (object : ℤ) where
  -- the least that the token surely uses of the object: from when it has started in any case until it may end
  pub record IsUseOn (actor : Actor) (usage : Use) : Type 0 where
    pub kind : actor.kind ≡ Uses
    pub on : IsOnAt state actor.place object
    pub from : usage.from ≡ actor.start_hi
    pub until : usage.until ≡ actor.end_lo
    pub quantity : usage.quantity ≡ actor.quantity_lo

  -- the most that the token may do to the object: its greatest quantity, from its earliest start on
  pub record IsPossible (actor : Actor) (instant amount : ℤ) : Type 0 where
    pub on : MayBeOnAt state actor.place object
    pub at : instant ≡ actor.start_lo
    pub quantity : amount ≡ actor.quantity_hi

  -- the least that the token does to the object in any case: its least quantity, from its latest start on
  pub record IsSure (actor : Actor) (instant amount : ℤ) : Type 0 where
    pub on : IsOnAt state actor.place object
    pub at : instant ≡ actor.start_hi
    pub quantity : amount ≡ actor.quantity_lo

  -- the change by which the token makes the object's level as high, or as low, as it can
  abbrev pub IsChangeAs : Extreme → PredKind → Actor → LevelChange → Type 0
  IsChangeAs Highest Produce actor change = IsPossible actor change.at change.add
  IsChangeAs Highest Consume actor change =
      (quantity : ℤ) × IsSure actor change.at quantity × (change.add +ℤ quantity ≡ pos 0)
  IsChangeAs Lowest Produce actor change = IsSure actor change.at change.add
  IsChangeAs Lowest Consume actor change =
      (quantity : ℤ) × IsPossible actor change.at quantity × (change.add +ℤ quantity ≡ pos 0)
  IsChangeAs extreme kind actor change = ⊥

  -- the same, of what the token does by its predicate
  abbrev pub IsChangeOf : Extreme → Actor → LevelChange → Type 0
  IsChangeOf extreme actor change = IsChangeAs extreme actor.kind actor change
