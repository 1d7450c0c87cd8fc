use Rattle.std.proofs.Common.{◌∙◌}
use Rattle.plan_core.proofs.Sorting.{comes_last}
use Rattle.plan_core.proofs.reading.know.Goals as goal

pub returns : goal.returns
returns c = c.in_ok-insert.ensures.keys ∙ comes_last _ c.names_are_told_apart.ensures.variables c.args.known.now.keys c.args.name c.requires
