use Rattle.europa_run.proofs.Tried.{tried_proves}
use Rattle.europa_run.proofs.laws.tried_ends_prove.Goals as goal

pub returns : goal.returns
returns c = tried_proves c.posed_once.ensures c.posed_databases_are_sound.ensures
