use Rattle.nddl_laws.proofs.Declared.{lawful_enums}
use Rattle.nddl_laws.proofs.lawful_tables.enums_are_lawful.Goals as goal

pub returns : goal.returns
returns c = lawful_enums
