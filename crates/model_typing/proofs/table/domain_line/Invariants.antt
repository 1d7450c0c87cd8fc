use Rattle.model_core.specs.Kinds.{IsObjectOf}
use Rattle.model_typing.specs.Lines.{IsLine}
use Rattle.model_typing.proofs.Each.{AreSoUpTo}
use Rattle.model_typing.proofs.table.domain_line.Given as goal

abbrev pub invariant-loop-place : goal.invariant-loop-place
invariant-loop-place l = IsLine l.model l.line (λ class. AreSoUpTo l.domain (IsObjectOf l.model class) l.place)
