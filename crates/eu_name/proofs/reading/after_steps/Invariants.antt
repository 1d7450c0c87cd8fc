use Rattle.std.proofs.Common.{List, length}
use Rattle.eu_name.specs.declared.name.Step.{Step}
use Rattle.eu_name.specs.Readers.{HasRead}
use Rattle.eu_name.proofs.reading.after_steps.Given as goal

-- some steps are read, and the rest isn't yet
abbrev pub invariant-loop-after : goal.invariant-loop-after
invariant-loop-after l = (steps : List Step) × HasRead l.text steps l.rest

abbrev pub decreases-loop-after : goal.decreases-loop-after
decreases-loop-after l = length l.rest
