use Rattle.plan_resolve.proofs.Naming.{known_is}
use Rattle.plan_resolve.proofs.subjects.is_known.Goals as goal

pub returns : goal.returns
returns c = known_is _ c.names_are_told_apart.ensures.variables c.args.known.now.keys c.args.name.now c.contains.result c.contains.ensures
