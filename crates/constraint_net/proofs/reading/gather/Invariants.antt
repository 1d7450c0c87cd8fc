use Rattle.std.proofs.Common.{◌≡◌, take}
use Rattle.constraint_net.specs.Reading.{literals_of}
use Rattle.constraint_net.proofs.reading.gather.Given as goal

abbrev pub invariant-loop-arg : goal.invariant-loop-arg
invariant-loop-arg l = l.literals.items ≡ literals_of (take l.arg-index l.args)
