use Rattle.std.proofs.Common.{length}
use Rattle.eu_name.specs.Readers.{HasRead}
use Rattle.eu_name.proofs.reading.steps_of.Given as goal

-- the steps so far are read, and the rest isn't yet
abbrev pub invariant-loop-step : goal.invariant-loop-step
invariant-loop-step l = HasRead l.text l.steps l.rest

abbrev pub decreases-loop-step : goal.decreases-loop-step
decreases-loop-step l = length l.rest
