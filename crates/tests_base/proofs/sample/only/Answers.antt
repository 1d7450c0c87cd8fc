use Rattle.tests_base.proofs.Lawfulness.{only_is}
use Rattle.tests_base.proofs.sample.only.Goals as goal

pub returns-in-Ok : goal.returns-in-Ok
returns-in-Ok c = only_is c.in-Ok.domain c.in-Ok.ensures
