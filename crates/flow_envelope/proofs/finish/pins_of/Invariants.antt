use Rattle.flow_envelope.specs.Finish.{ArePins}
use Rattle.flow_envelope.proofs.finish.pins_of.Given as goal

abbrev pub invariant-loop-place : goal.invariant-loop-place
invariant-loop-place l = ArePins l.changes l.certain l.adders l.place l.pins.items
