use Rattle.plan_resolve.proofs.Subjecting.{no_whole}
use Rattle.plan_resolve.proofs.resolving.whole_subject.Goals as goal

pub returns-in-None : goal.returns-in-None
returns-in-None c = no_whole c.args.model.now c.args.name.now c.requires.whole c.in_default.ensures c.in-None.ensures
