use Rattle.nddl_rule_laws.proofs.Meanings.{trees_counted}
use Rattle.nddl_rule_laws.proofs.meaning_laws.trees_are_counted.Goals as goal

pub returns : goal.returns
returns c = trees_counted
