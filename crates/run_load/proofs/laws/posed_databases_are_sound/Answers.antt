use Rattle.run_load.proofs.Once.{posed_sound}
use Rattle.run_load.proofs.laws.posed_databases_are_sound.Goals as goal

pub returns : goal.returns
returns c = posed_sound
