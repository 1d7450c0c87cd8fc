-- What one actor does to a level.
use Rattle.std.proofs.Common.{◌≡◌, ℤ, pos, ◌+ℤ◌, Option, Some, None, MatchOption, sym, subst}
use Rattle.model_core.specs.declared.class.PredKind.{PredKind}
use Rattle.model_core.specs.State.{State}
use Rattle.db_resources.specs.declared.actor.Actor.{Actor}
use Rattle.db_resources.specs.declared.change.Extreme.{Extreme}
use Rattle.db_resources.specs.Effects.{IsTurned, IsChangeAs}
use Rattle.resource_profile.specs.declared.level.LevelChange.{LevelChange}

-- the one change that is so, or that there is none
abbrev pub Told : (LevelChange → Type 0) → Option LevelChange → Type 0
Told Is found = MatchOption found ((change : LevelChange) → Is change → ⊥) Is

-- turned round
pub turned_told : (Is : ℤ → ℤ → Type 0) (change found : Option LevelChange) → Told (λ c. Is c.at c.add) change → IsTurned change found
    → Told (λ c. (quantity : ℤ) × Is c.at quantity × (c.add +ℤ quantity ≡ pos 0)) found
turned_told Is None found none same =
    subst (Told (λ c. (quantity : ℤ) × Is c.at quantity × (c.add +ℤ quantity ≡ pos 0))) (sym same)
    (λ c (quantity, is, sum). none (record { at = c.at; add = quantity }) is)
turned_told Is (Some added) found is (turned, (same, at, sum)) =
    subst (Told (λ c. (quantity : ℤ) × Is c.at quantity × (c.add +ℤ quantity ≡ pos 0))) (sym same)
    (added.add, subst (λ n. Is n added.add) (sym at) is, sum)

-- what is told of an extreme and an object is told of their equals
pub told_as : (state : State) (kind : PredKind) (actor : Actor) (one other : ℤ) (extreme like : Extreme) (found : Option LevelChange) → one ≡ other → extreme ≡ like
    → Told (IsChangeAs state one like kind actor) found → Told (IsChangeAs state other extreme kind actor) found
told_as state kind actor one other extreme like found objects extremes told =
    subst (λ o. Told (IsChangeAs state o extreme kind actor) found) objects
    (subst (λ e. Told (IsChangeAs state one e kind actor) found) (sym extremes) told)
