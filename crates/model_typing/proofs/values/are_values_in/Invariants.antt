use Rattle.model_core.specs.Kinds.{IsValueOf}
use Rattle.model_typing.proofs.Each.{AreSoUpTo}
use Rattle.model_typing.proofs.values.are_values_in.Given as goal

abbrev pub invariant-loop-place : goal.invariant-loop-place
invariant-loop-place l = AreSoUpTo l.domain (IsValueOf l.model l.kind) l.place
