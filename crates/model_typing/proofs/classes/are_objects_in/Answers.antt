use Rattle.std.proofs.Common.{◌≡◌, w32, to_z, of_z, sym, subst, arith}
use Rattle.std.proofs.lemmas.Int.{ints}
use Rattle.model_core.specs.Kinds.{IsObjectOf}
use Rattle.model_typing.proofs.Each.{all_so, not_all}
use Rattle.model_typing.proofs.Telling.{never, told_not, told_so}
use Rattle.model_typing.proofs.classes.are_objects_in.Goals as goal

pub returns-clause-told : goal.returns-clause-told
returns-clause-told c =
    let counted = c.count-place-end.ensures in
    told_so _ (all_so c.args.domain.now (IsObjectOf c.args.model.now c.args.class) c.loop-place.place counted.domain (omega (arith, counted.count, c.loop-place-test.false)) c.loop-place.invariant)

pub returns-then-not-is_object_of-clause-told : goal.returns-then-not-is_object_of-clause-told
returns-then-not-is_object_of-clause-told c =
    let cast : to_z w32 (of_z w32 c.in-Some.value) ≡ c.in-Some.value = omega (arith, ints) in
    told_not _ (not_all c.args.domain.now (IsObjectOf c.args.model.now c.args.class) c.loop-place.place c.in-Some.value c.count-place-end.ensures.domain c.in-Some.ensures.some
    (λ is. never _ c.if-not-is_object_of.ensures (subst (IsObjectOf c.args.model.now c.args.class) (sym cast) is)))
