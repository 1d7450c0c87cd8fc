use Rattle.model_core.specs.Naming.{names_of}
use Rattle.plan_core.proofs.Stepping.{ParametersRead}
use Rattle.plan_core.proofs.readers.parameters.Given as goal

abbrev pub invariant-loop-variable : goal.invariant-loop-variable
invariant-loop-variable l =
    ParametersRead l.initial.model (names_of l.initial.params) l.initial.params l.variable-index l.initial.cursor.rest.now l.cursor.rest.now l.initial.values.items l.values.items
