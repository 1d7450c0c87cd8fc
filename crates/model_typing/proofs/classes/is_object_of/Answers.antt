use Rattle.std.proofs.Common.{◌≡◌, ℤ, w32, to_z, of_z, sym, subst, arith}
use Rattle.std.proofs.lemmas.Int.{ints}
use Rattle.model_core.specs.declared.class.Object.{Object}
use Rattle.model_core.specs.Kinds.{IsObject, IsUnder}
use Rattle.model_typing.proofs.Telling.{found_one, found_none}
use Rattle.model_typing.proofs.Under.{object_once}
use Rattle.model_typing.proofs.classes.is_object_of.Goals as goal

pub returns-in-Some : goal.returns-in-Some
returns-in-Some c =
    let cast : to_z w32 (of_z w32 c.args.value) ≡ c.args.value = omega (arith, ints) in
    let at : IsObject c.args.model.now c.args.value c.in-Some.object.now = subst (λ (v : ℤ). IsObject c.args.model.now v c.in-Some.object.now) cast c.in-Some.ensures in
    found_one c.is_under.result (λ (o : Object). IsUnder c.args.model.now o.class c.args.class) (IsObject c.args.model.now c.args.value) c.in-Some.object.now at
    (λ other is. object_once c.args.model.now c.args.value other c.in-Some.object.now is at) c.is_under.ensures

pub returns-in-None : goal.returns-in-None
returns-in-None c =
    let cast : to_z w32 (of_z w32 c.args.value) ≡ c.args.value = omega (arith, ints) in
    found_none (λ (o : Object). IsUnder c.args.model.now o.class c.args.class) (IsObject c.args.model.now c.args.value)
    (λ object is. c.in-None.ensures object (subst (λ (v : ℤ). IsObject c.args.model.now v object) (sym cast) is))
