use Rattle.std.proofs.Common.{refl}
use Rattle.model_typing.proofs.Rising.{under_on}
use Rattle.model_typing.proofs.Under.{self_under, under_more}
use Rattle.model_typing.proofs.joining.class_above.Goals as goal

pub loop-preserved : goal.loop-preserved
loop-preserved c =
    let model = c.args.model.now in
    let parent = c.in-Some.parent in
    under_on model c.args.class c.loop.here parent c.loop.invariant
    (under_more model c.loop.here parent parent c.in-Some.ensures (self_under model parent parent refl))
