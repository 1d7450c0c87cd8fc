-- Which histories come about.
use Rattle.std.specs.Prelude.{◌≡◌, List, [], ◌∷◌, ◌++◌, ◌⊎◌}
use Rattle.model_core.specs.declared.decision.Decision.{Decision}
use Rattle.model_core.specs.declared.model.Model.{Model}
use Rattle.model_core.specs.History.{History}
use Rattle.plan_defs.specs.Refusals.{IsAdmissible}
use Rattle.plan_defs.specs.Settling.{Settles}

-- the list has one admissible decision more
abbrev pub Accepts : Model → List Decision → List Decision → Type 0
Accepts model below list = (decision : Decision) × IsAdmissible model below decision × (list ≡ below ++ decision ∷ [])

-- one decision was taken out, and the rest settled
pub record TakesOut (model : Model) (below list : List Decision) : Type 0 where
  pub front : List Decision
  pub decision : Decision
  pub back : List Decision
  pub parts : below ≡ front ++ decision ∷ back
  pub settles : Settles model (front ++ back) list

-- at the bottom nothing is decided, and each list comes of the one below it by a decision or by taking one out
abbrev pub IsHistory : Model → History → Type 0
IsHistory model [] = ⊥
IsHistory model (decisions ∷ []) = decisions ≡ []
IsHistory model (decisions ∷ below ∷ former) =
    (Accepts model below decisions ⊎ TakesOut model below decisions) × IsHistory model (below ∷ former)
