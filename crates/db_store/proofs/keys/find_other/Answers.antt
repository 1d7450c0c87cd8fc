use Rattle.db_store.proofs.Found.{found_listed, none_listed}
use Rattle.db_store.proofs.keys.find_other.Goals as goal

pub returns-in-Some : goal.returns-in-Some
returns-in-Some c = found_listed _ c.requires.told c.args.key c.args.others.now.entries c.in-Some.number.now c.in-Some.ensures.value

pub returns-in-None : goal.returns-in-None
returns-in-None c = none_listed _ c.requires.told c.args.key c.args.others.now.entries c.in-None.ensures.value
