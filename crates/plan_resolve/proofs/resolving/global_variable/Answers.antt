use Rattle.plan_resolve.proofs.Subjecting.{no_whole_variable}
use Rattle.plan_resolve.proofs.resolving.global_variable.Goals as goal

pub returns-in-Some : goal.returns-in-Some
returns-in-Some c = c.in-Some.ensures c.requires.whole

pub returns-in-None : goal.returns-in-None
returns-in-None c = no_whole_variable c.args.model.now c.args.name.now c.requires.whole c.in-None.ensures
