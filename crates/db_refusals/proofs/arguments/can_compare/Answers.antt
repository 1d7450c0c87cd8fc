use Rattle.std.proofs.Common.{[], ◌∷◌}
use Rattle.db_refusals.proofs.Typing.{compare_as, compare_none}
use Rattle.db_refusals.proofs.arguments.can_compare.Goals as goal

pub returns-in-Some : goal.returns-in-Some
returns-in-Some c =
    compare_as c.args.model.now c.args.reading (c.args.one.now ∷ c.args.other.now ∷ []) c.in-Some.kind c.both_suit.result c.in-Some.ensures c.both_suit.ensures

pub returns-in-None : goal.returns-in-None
returns-in-None c = compare_none c.args.model.now c.args.reading (c.args.one.now ∷ c.args.other.now ∷ []) c.in-None.ensures
