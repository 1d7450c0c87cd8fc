use Rattle.model_lawful.proofs.Joining.{ground_is}
use Rattle.model_lawful.proofs.whole.has_lawful_rest.Goals as goal

pub has_lawful_problem-requires-clause-ground : goal.has_lawful_problem-requires-clause-ground
has_lawful_problem-requires-clause-ground c = ground_is c.args.model.now c.in_ok-classes.classes c.requires.small c.requires.basis c.in_ok-classes.ensures
