use Rattle.db_store.proofs.Watched.{watchers_are_listed}
use Rattle.db_store.proofs.laws.watchers_are_listed.Goals as goal

pub returns : goal.returns
returns c = watchers_are_listed
