use Rattle.model_typing.proofs.Rising.{goes_up, under_on}
use Rattle.model_typing.proofs.Telling.{told_false}
use Rattle.model_typing.proofs.joining.lowest_near.Goals as goal

pub loop-stride-preserved-then-not-is_under : goal.loop-stride-preserved-then-not-is_under
loop-stride-preserved-then-not-is_under c =
    let model = c.args.model.now in (
      under_on model c.args.first c.loop-stride.class c.class_above-next.result c.loop-stride.invariant.0 c.class_above-next.ensures,
      goes_up model c.args.first c.args.other c.loop-stride.class c.class_above-next.result c.loop-stride.invariant.1
          c.class_above-next.ensures (told_false c.is_under.result _ c.if-not-is_under.true c.is_under.ensures),
    )
