use Rattle.std.proofs.Common.{[], ◌∷◌}
use Rattle.db_refusals.proofs.Typing.{finds_none}
use Rattle.db_refusals.proofs.arguments.kind_of_two.Goals as goal

pub returns-in-None : goal.returns-in-None
returns-in-None c =
    finds_none c.args.model.now c.args.one.now (c.args.other.now ∷ []) c.variable_kind-in-None.result c.in-None.ensures c.variable_kind-in-None.ensures
