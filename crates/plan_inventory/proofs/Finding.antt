-- That what is found is the place with the least names, clause by clause.
use Rattle.std.proofs.Common.{ℕ, ◌<◌, ◌≤◌, length, arith}
use Rattle.eu_name.specs.declared.name.VarName.TheVariants as variables
use Rattle.model_core.specs.declared.model.Model.{Model}
use Rattle.plan_defs.specs.declared.plan.Clause.TheVariants.{V1, V2, V3, V4, V6}
use Rattle.plan_defs.specs.declared.plan.Line.{Line}
use Rattle.plan_defs.specs.declared.plan.Place.{Place}
use Rattle.plan_defs.specs.declared.plan.Place.TheVariants as places
use Rattle.plan_defs.specs.declared.plan.Plan.{Plan}
use Rattle.plan_defs.specs.Broken.{AreLesserNames, IsLeastBroken}
use Rattle.plan_inventory.specs.Breaks.{IsFirstLine, IsFirstNumber, RootBecomes}
use Rattle.plan_defs.specs.Valid.{HasDeclaredValue, IsLineOfSort, IsLineAt, KeepsGlobals, KeepsRoots, KeepsTokens, KeepsMerges, KeepsAsked, SuitsIfToken, SuitsIfMerged, IsAsked}

module _ (model : Model) (plan : Plan) where
  -- ---- V1

  globals_below : (number : ℕ) → ((earlier : ℕ) → earlier < number → HasDeclaredValue model plan (variables.Global earlier)) → (other : Place) → AreLesserNames other (places.Global number)
      → KeepsGlobals model plan other
  globals_below number before (places.Global earlier) less = λ within. before earlier less
  globals_below number before other less = tt

  pub global_least : (number : ℕ) → number < length model.problem.globals → (HasDeclaredValue model plan (variables.Global number) → ⊥)
      → ((earlier : ℕ) → earlier < number → HasDeclaredValue model plan (variables.Global earlier)) → IsLeastBroken model plan V1 (places.Global number)
  global_least number within none before = record { broken = λ keeps. none (keeps within); least = globals_below number before }

  pub globals_kept : (count : ℕ) → length model.problem.globals ≤ count → ((number : ℕ) → number < count → HasDeclaredValue model plan (variables.Global number)) → (place : Place) → KeepsGlobals model plan place
  globals_kept count all each (places.Global number) = λ within. each number (omega (arith, within, all))
  globals_kept count all each other = tt

  -- ---- clauses of single lines

  lines_below : (place : ℕ) (IsSo : Line → Type 0) → ((earlier : ℕ) (other : Line) → earlier < place → IsLineAt plan earlier other → IsSo other) → (earlier : ℕ) → earlier < place
      → (other : Line) → IsLineAt plan earlier other → IsSo other
  lines_below place IsSo before earlier less other at = before earlier other less at

  tokens_below : (place : ℕ) → IsFirstLine plan (SuitsIfToken model plan) place → (other : Place) → AreLesserNames other (places.Line place) → KeepsTokens model plan other
  tokens_below place first (places.Line earlier) less = lines_below place (SuitsIfToken model plan) first.before earlier less
  tokens_below place first other less = tt

  pub token_least : (place : ℕ) → IsFirstLine plan (SuitsIfToken model plan) place → IsLeastBroken model plan V3 (places.Line place)
  token_least place first = record { broken = λ keeps. first.fails (keeps first.line first.at); least = tokens_below place first }

  pub tokens_kept : ((place : ℕ) (line : Line) → IsLineAt plan place line → SuitsIfToken model plan line) → (place : Place) → KeepsTokens model plan place
  tokens_kept all (places.Line place) = all place
  tokens_kept all other = tt

  merges_below : (place : ℕ) → IsFirstLine plan (SuitsIfMerged model plan) place → (other : Place) → AreLesserNames other (places.Line place) → KeepsMerges model plan other
  merges_below place first (places.Line earlier) less = lines_below place (SuitsIfMerged model plan) first.before earlier less
  merges_below place first other less = tt

  asking_below : (place : ℕ) → IsFirstLine plan (IsAsked model plan) place → (other : Place) → AreLesserNames other (places.Line place) → KeepsAsked model plan other
  asking_below place first (places.Line earlier) less = lines_below place (IsAsked model plan) first.before earlier less
  asking_below place first other less = tt

  pub merge_least : (place : ℕ) → IsFirstLine plan (SuitsIfMerged model plan) place → IsLeastBroken model plan V4 (places.Line place)
  merge_least place first = record { broken = λ keeps. first.fails (keeps first.line first.at); least = merges_below place first }

  pub merges_kept : ((place : ℕ) (line : Line) → IsLineAt plan place line → SuitsIfMerged model plan line) → (place : Place) → KeepsMerges model plan place
  merges_kept all (places.Line place) = all place
  merges_kept all other = tt

  pub asking_least : (place : ℕ) → IsFirstLine plan (IsAsked model plan) place → IsLeastBroken model plan V6 (places.Line place)
  asking_least place first = record { broken = λ keeps. first.fails (keeps first.line first.at); least = asking_below place first }

  pub asking_kept : ((place : ℕ) (line : Line) → IsLineAt plan place line → IsAsked model plan line) → (place : Place) → KeepsAsked model plan place
  asking_kept all (places.Line place) = all place
  asking_kept all other = tt

  -- ---- V2

  roots_below : (number : ℕ) → IsFirstNumber (RootBecomes model plan) number → (other : Place) → AreLesserNames other (places.Root number) → KeepsRoots model plan other
  roots_below number first (places.Root earlier) less = first.before earlier less
  roots_below number first (places.Line place) less = absurd less
  roots_below number first other less = tt

  pub root_least : (number : ℕ) → IsFirstNumber (RootBecomes model plan) number → IsLeastBroken model plan V2 (places.Root number)
  root_least number first = record { broken = first.fails; least = roots_below number first }

  sorts_below : (place : ℕ) → ((number : ℕ) → RootBecomes model plan number) → IsFirstLine plan IsLineOfSort place → (other : Place) → AreLesserNames other (places.Line place)
      → KeepsRoots model plan other
  sorts_below place roots first (places.Root number) less = roots number
  sorts_below place roots first (places.Line earlier) less = lines_below place IsLineOfSort first.before earlier less
  sorts_below place roots first other less = tt

  pub sort_least : (place : ℕ) → ((number : ℕ) → RootBecomes model plan number) → IsFirstLine plan IsLineOfSort place → IsLeastBroken model plan V2 (places.Line place)
  sort_least place roots first = record { broken = λ keeps. first.fails (keeps first.line first.at); least = sorts_below place roots first }

  pub roots_kept : ((number : ℕ) → RootBecomes model plan number) → ((place : ℕ) (line : Line) → IsLineAt plan place line → IsLineOfSort line) → (place : Place) → KeepsRoots model plan place
  roots_kept roots sorts (places.Root number) = roots number
  roots_kept roots sorts (places.Line place) = sorts place
  roots_kept roots sorts other = tt
