-- What the clauses one after the other say of a plan.
use Rattle.std.specs.Prelude.{ℕ, ◌<◌, Option, MatchOption}
use Rattle.model_core.specs.declared.model.Model.{Model}
use Rattle.plan_defs.specs.declared.plan.Clause.{Clause}
use Rattle.plan_defs.specs.declared.plan.Place.{Place}
use Rattle.plan_defs.specs.declared.plan.Plan.{Plan}
use Rattle.plan_defs.specs.Broken.{clauses_before, IsFirstBroken}
use Rattle.plan_defs.specs.Valid.{IsClauseKept}
use Rattle.plan_inventory.specs.declared.inventory.Broken.{Broken}

-- the first clauses, so many, are kept everywhere
abbrev pub KeptBelow : Model → Plan → ℕ → Type 0
KeptBelow model plan count =
    (clause : Clause) (place : Place) → clauses_before clause < count → IsClauseKept model plan clause place

-- the first clauses, so many, are kept, or this is the first that is broken, and where
abbrev pub FindsBelow : Model → Plan → ℕ → Option Broken → Type 0
FindsBelow model plan count found =
    MatchOption found (KeptBelow model plan count) (λ broken. IsFirstBroken model plan broken.clause broken.place)
