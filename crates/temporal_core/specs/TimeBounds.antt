-- What a call for the bounds of a network answers.
use Rattle.std.specs.Prelude.{ℕ, ℤ, ⊤}
use Rattle.temporal_core.specs.declared.bounds.TimeBounds.{TimeBounds}
use Rattle.temporal_core.specs.declared.bounds.TimeFault.{TimeFault}
use Rattle.temporal_core.specs.declared.bounds.TimeFault.TheVariants.{Cycle, Memory}
use Rattle.temporal_core.specs.Network.{TimeNetwork}
use Rattle.temporal_core.specs.Schedule.{IsSchedule, HasNoSchedule, AreLeastValues, AreGreatestValues}
use Rattle.temporal_core.specs.Cycle.{IsCanonicalCycle}

-- there is a schedule, and these are the least and the greatest value of each point over all schedules
pub record AreBounds (network : TimeNetwork) (bounds : TimeBounds) : Type 0 where
  pub schedule : (value : ℕ → ℤ) × IsSchedule network.edges value
  pub least : AreLeastValues network.points network.edges bounds.lo
  pub greatest : AreGreatestValues network.points network.edges bounds.hi

-- there is no schedule, and the cycle is the canonical one; or memory ran out
abbrev pub IsNoBounds : TimeNetwork → TimeFault → Type 0
IsNoBounds network (Cycle places) = HasNoSchedule network.edges × IsCanonicalCycle network.edges places
IsNoBounds network Memory = ⊤
