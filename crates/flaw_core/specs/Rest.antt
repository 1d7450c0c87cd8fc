-- What is left of a search that stands somewhere inside.
use Rattle.std.specs.Prelude.{◌≡◌, ℕ, suc, ◌⊎◌, Bool, ◌||◌, List, [], ◌∷◌}
use Rattle.model_core.specs.declared.decision.Decision.{Decision}
use Rattle.law_search.specs.Search.{SearchOutcome, Fails, VisitsEach, also_left_out}

-- a list that was visited, and those choices of its flaw that weren't yet
pub record LeftOver : Type 0 where
  pub decisions : List Decision
  pub choices : List Decision

-- Visits of lists by how deep they may lead, and how many units there are.
module _ (Visit : ℕ → ℕ → List Decision → SearchOutcome → Type 0) where
  -- The list visited last has failed, and those above it go on, the last first. An activation may have been left out before.
  abbrev pub SearchesOn : ℕ → List LeftOver → ℕ → Bool → SearchOutcome → Type 0
  SearchesOn depth [] units out outcome = outcome ≡ record { ending = Fails; left = units; left_out = out }
  SearchesOn depth (left ∷ lefts) units out outcome =
      (first : SearchOutcome) × VisitsEach (Visit depth) left.decisions left.choices units out first
      × (((first.ending ≡ Fails) × SearchesOn (suc depth) lefts first.left first.left_out outcome)
      ⊎ ((first.ending ≡ Fails → ⊥) × (outcome ≡ first)))

  -- This list is to be visited, and if it fails those above it go on.
  abbrev pub VisitsFirst : ℕ → List Decision → List LeftOver → ℕ → Bool → SearchOutcome → Type 0
  VisitsFirst depth decisions lefts units out outcome =
      (first : SearchOutcome) × Visit depth units decisions first
      × (((first.ending ≡ Fails) × SearchesOn depth lefts first.left (out || first.left_out) outcome)
      ⊎ ((first.ending ≡ Fails → ⊥) × (outcome ≡ also_left_out out first)))
