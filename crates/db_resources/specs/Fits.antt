-- Which resources fit, object by object.
use Rattle.std.specs.Prelude.{◌≡◌, ◌↔◌, ℤ, List}
use Rattle.model_core.specs.declared.class.Object.{Object}
use Rattle.model_core.specs.declared.class.ObjectKind.TheVariants.{Reusable, Reservoir}
use Rattle.model_core.specs.declared.decision.Decision.{Decision}
use Rattle.model_core.specs.declared.model.Model.{Model}
use Rattle.model_core.specs.Kinds.{IsObject}
use Rattle.model_core.specs.State.{State}
use Rattle.plan_defs.specs.Resources.{IsInstant, KeepsCapacity, StaysWithin, IsTokenComplete, FitReservoirs}

-- the object has a capacity
abbrev pub IsReusable : Object → Type 0
IsReusable object = (capacity : ℤ) × (object.kind ≡ Reusable capacity)

-- the object has a level
abbrev pub IsReservoir : Object → Type 0
IsReservoir object = (initial low high : ℤ) × (object.kind ≡ Reservoir initial low high)

-- what is surely used of the object isn't more than its capacity at any instant, where it is a reusable
abbrev pub FitsReusable : Model → List Decision → State → ℤ → Type 0
FitsReusable model decisions state value =
    (object : Object) (capacity instant : ℤ)
    → IsObject model value object → object.kind ≡ Reusable capacity → IsInstant model instant
    → KeepsCapacity model decisions state value instant capacity

-- the object's level can stay within its limits at each instant by itself, where it is a reservoir
abbrev pub FitsReservoir : Model → List Decision → State → ℤ → Type 0
FitsReservoir model decisions state value =
    (object : Object) (initial low high instant : ℤ)
    → IsObject model value object → object.kind ≡ Reservoir initial low high → IsInstant model instant
    → StaysWithin model decisions state value instant initial low high

-- the level of each reservoir can
abbrev pub FitLevels : Model → List Decision → State → Type 0
FitLevels model decisions state = (value : ℤ) → FitsReservoir model decisions state value

-- reservoirs fit where levels do, or further tokens can come
abbrev pub LevelsDecide : Type 0
LevelsDecide =
    (model : Model) (decisions : List Decision) (state : State)
    → FitReservoirs model decisions state ↔ (IsTokenComplete model decisions state → FitLevels model decisions state)
