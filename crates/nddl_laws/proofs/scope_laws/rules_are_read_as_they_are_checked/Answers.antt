use Rattle.nddl_laws.proofs.Looking.{rule_alike}
use Rattle.nddl_laws.proofs.scope_laws.rules_are_read_as_they_are_checked.Goals as goal

pub returns : goal.returns
returns c = rule_alike
