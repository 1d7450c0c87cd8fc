use Rattle.nddl_lowering_laws.proofs.Faultless.{faultless_lawful}
use Rattle.nddl_lowering_laws.proofs.faultless_laws.faultless_rules_are_lawful.Goals as goal

pub returns : goal.returns
returns c = faultless_lawful
