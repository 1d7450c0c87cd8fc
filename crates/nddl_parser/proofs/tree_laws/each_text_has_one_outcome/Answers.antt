use Rattle.nddl_parser.proofs.OneTree.{one_outcome}
use Rattle.nddl_parser.proofs.tree_laws.each_text_has_one_outcome.Goals as goal

pub returns : goal.returns
returns c = one_outcome
