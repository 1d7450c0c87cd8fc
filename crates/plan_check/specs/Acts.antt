-- What tokens do to resources, by their values.
use Rattle.std.specs.Prelude.{◌≡◌, ◌⊎◌, ℤ, pos, ◌+ℤ◌, ◌<ℤ◌, ⊤, List, [], ◌∷◌, Option, Some, None}
use Rattle.std.specs.Prelude.{MatchOption}
use Rattle.std.specs.List.{AllZip}
use Rattle.eu_name.specs.declared.name.Part.TheVariants.{Start, End, Object, Param}
use Rattle.eu_name.specs.declared.name.TokenName.{TokenName}
use Rattle.model_core.specs.declared.class.PredKind.TheVariants.{Uses, Produce, Consume}
use Rattle.model_core.specs.declared.model.Model.{Model}
use Rattle.plan_defs.specs.declared.plan.Line.{Line}
use Rattle.plan_defs.specs.declared.plan.Line.TheVariants as lines
use Rattle.plan_defs.specs.Valid.{IsOfSort, IsPartOf}
use Rattle.resource_profile.specs.declared.level.LevelChange.{LevelChange}
use Rattle.resource_profile.specs.declared.usage.Use.{Use}

-- ---- what is done by lines

-- what is done by each of the lines in order, where a line does one thing or nothing
abbrev pub acts_among : {A : Type 0} → List (Option A) → List A
acts_among [] = []
acts_among (None ∷ each) = acts_among each
acts_among (Some act ∷ each) = act ∷ acts_among each

-- these are what the lines do, in order
pub record Collects {A : Type 0} (IsDone : Line → Option A → Type 0) (listed : List Line) (acts : List A) : Type 0 where
  pub each : List (Option A)
  pub are : AllZip IsDone listed each
  pub acts_are : acts_among each ≡ acts

-- it is so at each instant, or this is the first at which it isn't
pub record IsFirstInstant (IsSo : ℤ → Type 0) (at : ℤ) : Type 0 where
  pub fails : IsSo at → ⊥
  pub before : (earlier : ℤ) → earlier <ℤ at → IsSo earlier

abbrev pub FindsInstant : (ℤ → Type 0) → Option ℤ → Type 0
FindsInstant IsSo found = MatchOption found ((instant : ℤ) → IsSo instant) (IsFirstInstant IsSo)

-- ---- uses

-- a token with these values is on the object, and uses it so
pub record ValuesUse (values : List ℤ) (object : ℤ) (usage : Use) : Type 0 where
  pub on : IsPartOf values Object object
  pub from : IsPartOf values Start usage.from
  pub until : IsPartOf values End usage.until
  pub quantity : IsPartOf values (Param 0) usage.quantity

-- the token is of a predicate that uses, and with these values it does so
pub record TokenUses (model : Model) (token : TokenName) (values : List ℤ) (object : ℤ) (usage : Use) : Type 0 where
  pub sort : IsOfSort model Uses token
  pub by_values : ValuesUse values object usage

-- the line's token uses the object so, or nothing
abbrev pub IsUseOf : Model → ℤ → Line → Option Use → Type 0
IsUseOf model object (lines.Token token fact values) (Some usage) = TokenUses model token values object usage
IsUseOf model object (lines.Token token fact values) None = (usage : Use) → TokenUses model token values object usage → ⊥
IsUseOf model object line (Some usage) = ⊥
IsUseOf model object line None = ⊤

-- ---- changes

-- a token with these values is on the object, has started at this instant, and has this quantity
pub record ValuesAct (values : List ℤ) (object at quantity : ℤ) : Type 0 where
  pub on : IsPartOf values Object object
  pub from : IsPartOf values Start at
  pub has_quantity : IsPartOf values (Param 0) quantity

-- what the token does at this instant with this quantity changes a level so: it raises or lowers it
abbrev pub TokenChanges : Model → TokenName → ℤ → ℤ → LevelChange → Type 0
TokenChanges model token at quantity change =
    (IsOfSort model Produce token × (change.at ≡ at) × (change.add ≡ quantity))
    ⊎ (IsOfSort model Consume token × (change.at ≡ at) × (change.add +ℤ quantity ≡ pos 0))

-- the line's token changes the level of the object so, or not at all
abbrev pub IsChangeOf : Model → ℤ → Line → Option LevelChange → Type 0
IsChangeOf model object (lines.Token token fact values) (Some change) =
    (at quantity : ℤ) × (ValuesAct values object at quantity × TokenChanges model token at quantity change)
IsChangeOf model object (lines.Token token fact values) None =
    (at quantity : ℤ) → ValuesAct values object at quantity
    → (IsOfSort model Produce token → ⊥) × (IsOfSort model Consume token → ⊥)
IsChangeOf model object line (Some change) = ⊥
IsChangeOf model object line None = ⊤
