use Rattle.std.specs.Prelude.{◌↔◌, drop}
use Rattle.std.specs.List.{AllZip}
use Rattle.model_core.specs.Kinds.{IsValueOf}
use Rattle.model_lawful.proofs.objects.are_values_of.Given as goal

abbrev pub invariant-loop-variable : goal.invariant-loop-variable
invariant-loop-variable l =
    AllZip (λ variable value. IsValueOf l.model variable.kind value) l.variables l.values
    ↔ AllZip (λ variable value. IsValueOf l.model variable.kind value) (drop l.variable-index l.variables) l.left
