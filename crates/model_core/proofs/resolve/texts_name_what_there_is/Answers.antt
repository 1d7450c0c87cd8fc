use Rattle.model_core.proofs.Naming.{names_what_there_is}
use Rattle.model_core.proofs.resolve.texts_name_what_there_is.Goals as goal

pub returns : goal.returns
returns c = names_what_there_is
