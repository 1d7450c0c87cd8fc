use Rattle.model_core.specs.Kinds.{IsObjectOf}
use Rattle.model_typing.proofs.Each.{AreSoUpTo}
use Rattle.model_typing.proofs.classes.are_objects_in.Given as goal

abbrev pub invariant-loop-place : goal.invariant-loop-place
invariant-loop-place l = AreSoUpTo l.domain (IsObjectOf l.model l.class) l.place
