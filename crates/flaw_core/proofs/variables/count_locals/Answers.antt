-- A lawful rule has few locals.
use Rattle.std.proofs.Common.{arith}
use Rattle.plan_states.proofs.Counting.{few_locals, local_in}
use Rattle.flaw_core.proofs.variables.count_locals.Goals as goal

pub overflow_cast-result : goal.overflow_cast-result
overflow_cast-result c = omega (arith, few_locals c.args.model.now c.args.pred c.args.rule c.in-Some.found.now c.requires c.in-Some.ensures, c.len.ensures)

pub returns-in-Some : goal.returns-in-Some
returns-in-Some c = λ found number variable has at. omega (arith, local_in c.args.model.now c.args.pred c.args.rule number c.in-Some.found.now found variable c.in-Some.ensures has at, c.len.ensures)

pub returns-in-None : goal.returns-in-None
returns-in-None c = λ found number variable has at. absurd (c.in-None.ensures found has)
