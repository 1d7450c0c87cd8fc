use Rattle.std.proofs.Common.{[], ◌∷◌}
use Rattle.db_refusals.proofs.Typing.{finds_none}
use Rattle.db_refusals.proofs.arguments.kind_of_three.Goals as goal

pub returns-in-None : goal.returns-in-None
returns-in-None c =
    finds_none c.args.model.now c.args.one.now (c.args.other.now ∷ c.args.last.now ∷ []) c.kind_of_two.result c.in-None.ensures c.kind_of_two.ensures
