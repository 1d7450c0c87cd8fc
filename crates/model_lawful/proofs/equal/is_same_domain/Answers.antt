use Rattle.std.proofs.Common.{◌≡◌}
use Rattle.model_typing.proofs.Telling.{told_as}
use Rattle.model_lawful.specs.Alike.{LieInEachOther}
use Rattle.model_lawful.proofs.Alike.{alike_same, same_alike}
use Rattle.model_lawful.proofs.equal.is_same_domain.Goals as goal

pub returns : goal.returns
returns c =
    told_as c.lie_in_each_other.result (LieInEachOther c.args.one.now c.args.other.now) (c.args.one.now ≡ c.args.other.now)
    (alike_same c.args.one.now c.args.other.now c.values_are_values.ensures c.values_are_values-2.ensures) (same_alike c.args.one.now c.args.other.now c.values_are_values.ensures)
    c.lie_in_each_other.ensures
