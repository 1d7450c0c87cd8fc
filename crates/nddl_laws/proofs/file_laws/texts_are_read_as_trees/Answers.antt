use Rattle.nddl_laws.proofs.Texts.{reads_trees}
use Rattle.nddl_laws.proofs.file_laws.texts_are_read_as_trees.Goals as goal

pub returns : goal.returns
returns c = reads_trees
