use Rattle.model_core.specs.Naming.{IsGlobalName}
use Rattle.model_lawful.proofs.Counting.{AreSoBelow}
use Rattle.model_lawful.proofs.naming.have_global_names.Given as goal

abbrev pub invariant-loop-number : goal.invariant-loop-number
invariant-loop-number l = AreSoBelow (λ number variable. IsGlobalName number variable.name) l.globals l.number
