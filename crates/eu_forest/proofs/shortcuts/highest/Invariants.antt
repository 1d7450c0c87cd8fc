use Rattle.eu_forest.specs.Shortcuts.{depth_in}
use Rattle.eu_forest.proofs.Jumping.{Climbs}
use Rattle.eu_forest.proofs.shortcuts.highest.Given as goal

-- what the start reaches of this is what is reached from here
abbrev pub invariant-loop-here : goal.invariant-loop-here
invariant-loop-here l = Climbs l.up l.shortcuts l.number l.other l.here

abbrev pub decreases-loop-here : goal.decreases-loop-here
decreases-loop-here l = depth_in l.shortcuts l.here
