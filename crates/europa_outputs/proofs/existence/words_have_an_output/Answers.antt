use Rattle.europa_outputs.proofs.Running as running
use Rattle.europa_outputs.proofs.existence.words_have_an_output.Goals as goal

pub returns : goal.returns
returns c = running.words_have_an_output c.posed_databases_are_sound.ensures
