use Rattle.europa_outputs.proofs.Running as running
use Rattle.europa_outputs.proofs.existence.commands_have_outputs.Goals as goal

pub returns : goal.returns
returns c = running.commands_have_outputs c.posed_databases_are_sound.ensures
