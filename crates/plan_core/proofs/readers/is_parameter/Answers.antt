use Rattle.std.proofs.Common.{rules}
use Rattle.plan_core.proofs.Stepping.{parameter_is}
use Rattle.plan_core.proofs.readers.is_parameter.Goals as goal

pub returns : goal.returns
returns c = parameter_is c.args.params.now c.args.word.now c.parameter_place.result c.is_some.result c.parameter_place.ensures (search rules)
