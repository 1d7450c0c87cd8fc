use Rattle.db_fixpoint.proofs.Seated.{owner_told, owner_none}
use Rattle.db_fixpoint.proofs.seating.owner_at.Goals as goal

pub returns-in_default : goal.returns-in_default
returns-in_default c = owner_none c.args.store.now.keys c.args.number c.in_default.ensures

pub returns : goal.returns
returns c = owner_told c.args.store.now.keys c.args.number c.in-Some.key c.owner_of.result c.in-Some.ensures c.owner_of.ensures
