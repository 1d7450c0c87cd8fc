-- What a call for the greatest sum answers.
use Rattle.std.specs.Prelude.{◌≡◌, ℕ, ◌<◌, ℤ, pos, negsuc, ◌≤ℤ◌, List, length, ⊤}
use Rattle.temporal_core.specs.Network.{TimeNetwork}
use Rattle.temporal_core.specs.Schedule.{IsSchedule, HasNoSchedule}
use Rattle.temporal_core.specs.Satisfied.{value_at}
use Rattle.flow_envelope.specs.declared.change.PointChange.{PointChange}
use Rattle.flow_envelope.specs.declared.change.PeakProof.{PeakProof}
use Rattle.flow_envelope.specs.declared.change.PeakFault.{PeakFault}
use Rattle.flow_envelope.specs.declared.change.PeakFault.TheVariants.{Cycle, Memory}
use Rattle.flow_envelope.specs.Sums.{sum_by}
use Rattle.flow_envelope.specs.Cut.{IsCut, HasNoMore}

-- a number that models have
abbrev pub IsInstant : ℤ → Type 0
IsInstant at = (negsuc 999999 ≤ℤ at) × (at ≤ℤ pos 1000000)

-- the change is at one of so many points, and adds or takes a million at most
pub record IsChange (points : ℕ) (change : PointChange) : Type 0 where
  pub point : change.point < points
  pub low : negsuc 999999 ≤ℤ change.add
  pub high : change.add ≤ℤ pos 1000000

-- a schedule with the sum, which no schedule exceeds, and a cut that shows it
pub record IsPeak (network : TimeNetwork) (changes : List PointChange) (at : ℤ) (peak : PeakProof) : Type 0 where
  pub count : length peak.schedule ≡ network.points
  pub schedule : IsSchedule network.edges (value_at peak.schedule)
  pub sum : sum_by at (value_at peak.schedule) changes ≡ peak.sum
  pub greatest : HasNoMore network.edges changes at peak.sum
  pub cut : IsCut network.edges changes at peak.cut peak.sum

-- there is no schedule; or memory ran out
abbrev pub IsNoPeak : TimeNetwork → PeakFault → Type 0
IsNoPeak network Cycle = HasNoSchedule network.edges
IsNoPeak network Memory = ⊤
