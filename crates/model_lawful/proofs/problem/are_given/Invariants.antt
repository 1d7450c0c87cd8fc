use Rattle.std.specs.Prelude.{take, All}
use Rattle.model_core.specs.Variables.{IsGiven}
use Rattle.model_lawful.proofs.problem.are_given.Given as goal

abbrev pub invariant-loop-variable : goal.invariant-loop-variable
invariant-loop-variable l = All (λ variable. IsGiven variable.base) (take l.variable-index l.variables)
