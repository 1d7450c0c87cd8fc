-- A lawful predicate has few parameters.
use Rattle.std.proofs.Common.{arith}
use Rattle.plan_states.proofs.Counting.{few_parts}
use Rattle.flaw_core.proofs.Sorting.{parameter_below}
use Rattle.flaw_core.proofs.variables.count_params.Goals as goal

pub overflow_cast-result : goal.overflow_cast-result
overflow_cast-result c = omega (arith, few_parts c.args.model.now c.args.pred c.in-Some.found.now c.requires c.in-Some.ensures, c.len.ensures)

pub returns-in-Some : goal.returns-in-Some
returns-in-Some c = λ number variable has. omega (arith, parameter_below c.args.model.now c.args.pred number c.in-Some.found.now variable c.in-Some.ensures has, c.len.ensures)

pub returns-in-None : goal.returns-in-None
returns-in-None c = λ number variable has. absurd (c.in-None.ensures has.predicate has.is_predicate)
