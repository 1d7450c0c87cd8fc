-- What the numbers say, they say in each state.
use Rattle.std.proofs.Common.{rules}
use Rattle.timeline_core.specs.declared.order.ForcedOrder.TheVariants.{Open, First, Second, Neither}
use Rattle.timeline_core.proofs.Ending.{in_states}
use Rattle.timeline_core.proofs.order.forced.Goals as goal

pub returns-in-true-true-clause-closure : goal.returns-in-true-true-clause-closure
returns-in-true-true-clause-closure c = in_states Neither c.args.a c.args.b (search rules)

pub returns-in-true-false-clause-closure : goal.returns-in-true-false-clause-closure
returns-in-true-false-clause-closure c = in_states Second c.args.a c.args.b (search rules)

pub returns-in-false-true-clause-closure : goal.returns-in-false-true-clause-closure
returns-in-false-true-clause-closure c = in_states First c.args.a c.args.b (search rules)

pub returns-in-false-false-clause-closure : goal.returns-in-false-false-clause-closure
returns-in-false-false-clause-closure c = in_states Open c.args.a c.args.b (search rules)
