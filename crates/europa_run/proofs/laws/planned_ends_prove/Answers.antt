use Rattle.europa_run.proofs.Planned.{planned_proves}
use Rattle.europa_run.proofs.laws.planned_ends_prove.Goals as goal

pub returns : goal.returns
returns c = planned_proves c.posed_once.ensures c.posed_databases_are_sound.ensures
