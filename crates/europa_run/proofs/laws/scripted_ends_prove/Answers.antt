use Rattle.europa_run.proofs.Scripted.{scripted_proves}
use Rattle.europa_run.proofs.laws.scripted_ends_prove.Goals as goal

pub returns : goal.returns
returns c = scripted_proves c.posed_once.ensures c.solved_ends_prove.ensures
