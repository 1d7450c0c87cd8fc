use Rattle.nddl_rule_laws.proofs.Meanings.{limits_told}
use Rattle.nddl_rule_laws.proofs.meaning_laws.limits_are_told.Goals as goal

pub returns : goal.returns
returns c = limits_told
