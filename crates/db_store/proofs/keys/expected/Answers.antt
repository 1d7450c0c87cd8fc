use Rattle.std.proofs.lemmas.Option.{none-some}
use Rattle.db_store.proofs.Found.{found_expected}
use Rattle.db_store.proofs.keys.expected.Goals as goal

pub returns-in-Some : goal.returns-in-Some
returns-in-Some c = found_expected c.args.starts.now c.args.all.now c.args.key c.in-Some.number c.if_there.result (c.in-Some.ensures c.args.all.now) c.if_there.ensures

pub returns-in-None : goal.returns-in-None
returns-in-None c = λ number expected there. none-some number (c.in-None.ensures c.args.all.now number expected)
