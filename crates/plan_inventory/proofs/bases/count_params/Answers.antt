use Rattle.std.proofs.Common.{arith}
use Rattle.plan_inventory.proofs.Declaring.{few_params, params_below, params_there}
use Rattle.plan_inventory.proofs.bases.count_params.Goals as goal

pub overflow_cast-result : goal.overflow_cast-result
overflow_cast-result c = omega (arith, few_params c.args.model.now c.requires c.args.pred c.in-Some.found.now c.in-Some.ensures, c.len.ensures)

pub returns-in-Some-clause-below : goal.returns-in-Some-clause-below
returns-in-Some-clause-below c = λ number variable has.
    omega (arith, params_below c.args.model.now c.requires c.args.pred c.in-Some.found.now c.in-Some.ensures number variable has, c.len.ensures)

pub returns-in-Some-clause-there : goal.returns-in-Some-clause-there
returns-in-Some-clause-there c = λ number below. params_there c.args.model.now c.args.pred c.in-Some.found.now c.in-Some.ensures number (omega (arith, below, c.len.ensures))

pub returns-in-None-clause-below : goal.returns-in-None-clause-below
returns-in-None-clause-below c = λ number variable has. absurd (c.in-None.ensures has.predicate has.is_predicate)
