use Rattle.std.proofs.Common.{[], ◌∷◌}
use Rattle.db_refusals.proofs.Typing.{order_as, order_not, order_none}
use Rattle.db_refusals.proofs.arguments.can_order.Goals as goal

pub returns-then-is_numeric : goal.returns-then-is_numeric
returns-then-is_numeric c =
    order_as c.args.model.now c.args.reading (c.args.one.now ∷ c.args.other.now ∷ []) c.in-Some.kind c.both_suit.result c.in-Some.ensures
    (c.is_numeric.ensures.0 c.if-is_numeric.true) c.both_suit.ensures

pub returns-else-is_numeric : goal.returns-else-is_numeric
returns-else-is_numeric c =
    order_not c.args.model.now c.args.reading (c.args.one.now ∷ c.args.other.now ∷ []) c.in-Some.kind c.is_numeric.result c.in-Some.ensures
    c.if-is_numeric.false c.is_numeric.ensures

pub returns-in-None : goal.returns-in-None
returns-in-None c = order_none c.args.model.now c.args.reading (c.args.one.now ∷ c.args.other.now ∷ []) c.in-None.ensures
