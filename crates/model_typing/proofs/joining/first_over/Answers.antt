use Rattle.std.proofs.Common.{refl, sym, subst}
use Rattle.model_core.specs.Kinds.{IsUnder}
use Rattle.model_typing.proofs.Rising.{over_both, under_on}
use Rattle.model_typing.proofs.Telling.{told_false}
use Rattle.model_typing.proofs.Under.{self_under, under_less, under_more, under_none}
use Rattle.model_typing.proofs.Upward.{fewer_above}
use Rattle.model_typing.proofs.joining.first_over.Goals as goal

pub loop-class-preserved : goal.loop-class-preserved
loop-class-preserved c =
    let model = c.args.model.now in
    let here = c.loop-class.class in
    let parent = c.in-Some.parent in
    let apart = told_false c.is_under.result _ c.loop-class-test.true c.is_under.ensures in (
      under_on model c.args.first here parent c.loop-class.invariant.0
          (under_more model here parent parent c.in-Some.ensures (self_under model parent parent refl)),
      λ class under over. under_less model here parent class c.in-Some.ensures
          (λ same. apart (subst (IsUnder model c.args.other) (sym same) over)) (c.loop-class.invariant.1 class under over),
    )

pub loop-class-smaller : goal.loop-class-smaller
loop-class-smaller c = fewer_above c.args.model.now c.args.parents.now c.requires.parents c.loop-class.class c.in-Some.parent c.in-Some.ensures

pub returns-in-None : goal.returns-in-None
returns-in-None c =
    let model = c.args.model.now in
    let apart = told_false c.is_under.result _ c.loop-class-test.true c.is_under.ensures in
    λ class under over. under_none model c.loop-class.class class c.in-None.ensures
    (λ same. apart (subst (IsUnder model c.args.other) (sym same) over)) (c.loop-class.invariant.1 class under over)

pub returns : goal.returns
returns c =
    over_both c.args.model.now c.args.first c.args.other c.loop-class.class c.loop-class.invariant.0
    (c.is_under.ensures.0 c.loop-class-test.false) c.loop-class.invariant.1
