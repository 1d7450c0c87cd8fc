use Rattle.nddl_name_laws.proofs.Trees.{trees_where_whole}
use Rattle.nddl_name_laws.proofs.object_laws.trees_are_meant_where_whole.Goals as goal

pub returns : goal.returns
returns c = trees_where_whole
