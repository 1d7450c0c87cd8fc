use Rattle.nddl_whole_laws.proofs.Ruling.{fitting_rules_lawful}
use Rattle.nddl_whole_laws.proofs.whole_laws.fitting_fields_make_rules_lawful.Goals as goal

pub returns : goal.returns
returns c = fitting_rules_lawful
