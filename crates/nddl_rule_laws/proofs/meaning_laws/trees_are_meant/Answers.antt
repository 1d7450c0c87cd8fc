use Rattle.nddl_rule_laws.proofs.Meanings.{trees_meant}
use Rattle.nddl_rule_laws.proofs.meaning_laws.trees_are_meant.Goals as goal

pub returns : goal.returns
returns c = trees_meant
