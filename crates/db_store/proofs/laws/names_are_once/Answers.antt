use Rattle.db_store.proofs.Naming.{names_are_once, names_have_one_number, gives_by_number}
use Rattle.db_store.proofs.laws.names_are_once.Goals as goal

pub returns-clause-once : goal.returns-clause-once
returns-clause-once c = names_are_once

pub returns-clause-number : goal.returns-clause-number
returns-clause-number c = names_have_one_number

pub returns-clause-gives : goal.returns-clause-gives
returns-clause-gives c = gives_by_number
