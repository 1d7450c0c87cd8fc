use Rattle.std.proofs.Common.{arith}
use Rattle.model_core.specs.Kinds.{IsValueOf}
use Rattle.model_typing.proofs.Each.{all_so}
use Rattle.model_typing.proofs.Telling.{told_so}
use Rattle.model_typing.proofs.values.are_values_in.Goals as goal

pub returns : goal.returns
returns c =
    let counted = c.count-place-end.ensures in
    told_so _ (all_so c.args.domain.now (IsValueOf c.args.model.now c.args.kind) c.loop-place.place counted.domain (omega (arith, counted.count, c.loop-place-test.false)) c.loop-place.invariant)
