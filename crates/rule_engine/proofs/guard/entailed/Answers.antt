-- Where one of the domains has more values than the common one, either side may be chosen.
use Rattle.std.proofs.Common.{rules}
use Rattle.rule_engine.proofs.Choices.{open_by_first, open_by_second}
use Rattle.rule_engine.proofs.guard.entailed.Goals as goal

pub returns-then-not-is_single : goal.returns-then-not-is_single
returns-then-not-is_single c = λ guard is. open_by_first c.args.a.now c.args.b.now (search rules) (search rules) guard

pub returns-else-is_single : goal.returns-else-is_single
returns-else-is_single c = λ guard is. open_by_second c.args.a.now c.args.b.now (search rules) (search rules) guard
