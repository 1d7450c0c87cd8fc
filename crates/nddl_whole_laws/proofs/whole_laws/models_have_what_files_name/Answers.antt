use Rattle.nddl_whole_laws.proofs.Ruling.{models_have_things}
use Rattle.nddl_whole_laws.proofs.whole_laws.models_have_what_files_name.Goals as goal

pub returns : goal.returns
returns c = models_have_things
