use Rattle.eu_name.proofs.Names.{spells_one_name, is_read_back}
use Rattle.eu_name.proofs.laws.names_are_read_back.Goals as goal

pub returns-clause-one : goal.returns-clause-one
returns-clause-one c = spells_one_name

pub returns-clause-read : goal.returns-clause-read
returns-clause-read c = is_read_back
