use Rattle.model_core.specs.Kinds.{IsUnder}
use Rattle.model_typing.proofs.joining.class_above.Given as goal

abbrev pub invariant-loop : goal.invariant-loop
invariant-loop l = IsUnder l.model l.class l.here
