-- Steps towards the least state, which lose nothing that fits. The one induction of the database goes over these.
use Rattle.std.specs.Prelude.{◌≡◌, ℕ, List, [], ◌∷◌, Some, set, slice_get, ⊤}
use Rattle.domain_core.specs.Domain.{Domain}
use Rattle.model_core.specs.declared.model.Model.{Model}
use Rattle.eu_name.specs.declared.name.VarName.{VarName}
use Rattle.model_core.specs.State.{State, IsState, IsBelow}

-- the new state lies below the old one, and every state below the old one that fits is below the new one
pub record Approaches (model : Model) (fits : State → Type 0) (old new : State) : Type 0 where
  pub lower : IsBelow old new
  pub is_state : IsState model old → IsState model new
  pub keeps : (other : State) → IsState model other → IsBelow old other → fits other → IsBelow new other

-- each state comes of the one before it by a step
abbrev pub AreSteps : Model → (State → Type 0) → State → List State → Type 0
AreSteps model fits state [] = ⊤
AreSteps model fits state (next ∷ states) = Approaches model fits state next × AreSteps model fits next states

-- where the steps lead to
abbrev pub last_of : State → List State → State
last_of state [] = state
last_of state (next ∷ states) = last_of next states

-- the variable has this domain in place of the one before, and all else is as it was
pub record SetsDomain (old : State) (name : VarName) (domain : Domain) (new : State) : Type 0 where
  pub place : ℕ
  pub before : Domain
  pub at : slice_get old.entries place ≡ Some (record { name = name; domain = before })
  pub tokens : new.tokens ≡ old.tokens
  pub blocks : new.blocks ≡ old.blocks
  pub entries : new.entries ≡ set old.entries place (record { name = name; domain = domain })
