-- A lawful predicate has few rules.
use Rattle.std.proofs.Common.{arith}
use Rattle.plan_states.proofs.Counting.{few_rules, rule_below}
use Rattle.flaw_core.proofs.variables.count_rules.Goals as goal

pub overflow_cast-result : goal.overflow_cast-result
overflow_cast-result c = omega (arith, few_rules c.args.model.now c.args.pred c.in-Some.found.now c.requires c.in-Some.ensures, c.len.ensures)

pub returns-in-Some : goal.returns-in-Some
returns-in-Some c = λ number rule has. omega (arith, rule_below c.args.model.now c.args.pred number c.in-Some.found.now rule c.in-Some.ensures has, c.len.ensures)

pub returns-in-None : goal.returns-in-None
returns-in-None c = λ number rule has. absurd (c.in-None.ensures has.predicate has.is_predicate)
