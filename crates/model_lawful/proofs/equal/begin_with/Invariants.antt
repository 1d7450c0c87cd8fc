use Rattle.std.specs.Prelude.{◌↔◌, drop}
use Rattle.model_lawful.specs.Classes.{BeginsWith}
use Rattle.model_lawful.proofs.equal.begin_with.Given as goal

abbrev pub invariant-loop-expected : goal.invariant-loop-expected
invariant-loop-expected l = BeginsWith l.variables l.front ↔ BeginsWith l.left (drop l.expected-index l.front)
