use Rattle.nddl_rule_laws.proofs.Grounds.{trees_have_grounds}
use Rattle.nddl_rule_laws.proofs.ground_laws.trees_have_grounds.Goals as goal

pub returns : goal.returns
returns c = trees_have_grounds
