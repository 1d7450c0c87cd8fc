use Rattle.nddl_parser.proofs.OneTree.{one_tree}
use Rattle.nddl_parser.proofs.tree_laws.lexemes_have_one_tree.Goals as goal

pub returns : goal.returns
returns c = one_tree
