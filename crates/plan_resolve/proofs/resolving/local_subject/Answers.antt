use Rattle.plan_resolve.proofs.Subjecting.{local_subjects}
use Rattle.plan_resolve.proofs.resolving.local_subject.Goals as goal

pub returns : goal.returns
returns c = local_subjects c.args.model.now c.args.name.now c.args.rule c.args.number c.local_variable.result c.requires.tail c.local_variable.ensures
