use Rattle.db_posting.proofs.Naming.{keys_are_named, named_terms_are_there}
use Rattle.db_posting.proofs.laws.keys_are_named.Goals as goal

pub returns-clause-keys : goal.returns-clause-keys
returns-clause-keys c = keys_are_named

pub returns-clause-terms : goal.returns-clause-terms
returns-clause-terms c = named_terms_are_there
