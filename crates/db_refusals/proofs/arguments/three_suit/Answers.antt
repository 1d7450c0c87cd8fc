use Rattle.std.proofs.Common.{[], ◌∷◌}
use Rattle.db_refusals.specs.Typing.{Suits}
use Rattle.db_refusals.proofs.Typing.{more_suit, none_suit}
use Rattle.db_refusals.proofs.arguments.three_suit.Goals as goal

pub returns-then-suits : goal.returns-then-suits
returns-then-suits c =
    more_suit (Suits c.args.model.now c.args.reading c.args.kind) c.args.one.now (c.args.other.now ∷ c.args.last.now ∷ []) c.both_suit.result
    (c.suits.ensures.0 c.if-suits.true) c.both_suit.ensures

pub returns-else-suits : goal.returns-else-suits
returns-else-suits c =
    none_suit (Suits c.args.model.now c.args.reading c.args.kind) c.args.one.now (c.args.other.now ∷ c.args.last.now ∷ []) c.suits.result c.if-suits.false c.suits.ensures
