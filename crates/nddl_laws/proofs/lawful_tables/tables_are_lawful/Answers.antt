use Rattle.nddl_laws.proofs.Bare.{bare_lawful}
use Rattle.nddl_laws.proofs.lawful_tables.tables_are_lawful.Goals as goal

pub returns : goal.returns
returns c = bare_lawful
