-- What carrying amounts leaves.
use Rattle.std.specs.Prelude.{◌≡◌, ℕ, ◌<◌, if◌then◌else◌, ℤ, pos, neg_ℤ, int_lt, List, Option, Some, None}
use Rattle.temporal_core.specs.Satisfied.{value_sum}
use Rattle.flow_envelope.specs.declared.change.PointChange.{PointChange}
use Rattle.flow_envelope.specs.declared.change.Amount.{Amount}
use Rattle.flow_envelope.specs.declared.labels.Label.{Label}
use Rattle.flow_envelope.specs.Flow.{IsFlow, IsMoved, IsSent}
use Rattle.flow_envelope.specs.Labels.{label_at, IsStart}

-- what the change has to give
unfoldable pub to_give : PointChange → ℤ
to_give change = if int_lt (pos 0) change.add then change.add else pos 0

-- what the change has room for
unfoldable pub to_take : PointChange → ℤ
to_take change = if int_lt change.add (pos 0) then neg_ℤ change.add else pos 0

-- the place that has more then, which is nearer to room
pub record IsHandedOn (adders takers : List Label) (place : ℕ) (pairs : List Amount) (more room : List ℤ)
    (pairs' : List Amount) (more' room' : List ℤ) (next : ℕ) : Type 0 where
  pub flow : IsFlow pairs' more' room'
  pub moved : IsMoved pairs more room pairs' more' room'
  pub same : value_sum more' ≡ value_sum more
  pub start : IsStart pairs' more' room' adders takers next
  pub nearer : (label_at adders next).rank < (label_at adders place).rank

-- more was carried in all, or another place has more
abbrev pub IsStep : List Label → List Label → ℕ → List Amount → List ℤ → List ℤ → List Amount → List ℤ
    → List ℤ → Option ℕ → Type 0
IsStep adders takers place pairs more room pairs' more' room' None = IsSent pairs more room pairs' more' room'
IsStep adders takers place pairs more room pairs' more' room' (Some next) =
    IsHandedOn adders takers place pairs more room pairs' more' room' next
