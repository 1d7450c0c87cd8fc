use Rattle.std.proofs.Common.{◌≡◌, take}
use Rattle.model_core.proofs.decision.copy_arguments.Given as goal

abbrev pub invariant-loop-argument : goal.invariant-loop-argument
invariant-loop-argument l = l.copies ≡ take l.argument-index l.argument-items
