use Rattle.std.proofs.Common.{◌≡◌, ℤ, w32, to_z, of_z, sym, subst, arith}
use Rattle.std.proofs.lemmas.Int.{ints}
use Rattle.model_core.specs.declared.class.Object.{Object}
use Rattle.model_core.specs.Kinds.{IsObject, IsUnder}
use Rattle.model_typing.proofs.Under.{object_once}
use Rattle.model_typing.proofs.joining.joined.Goals as goal

pub returns-in-Some : goal.returns-in-Some
returns-in-Some c =
    let model = c.args.model.now in
    let cast : to_z w32 (of_z w32 c.args.value) ≡ c.args.value = omega (arith, ints) in
    let there : IsObject model c.args.value c.in-Some.object.now = subst (λ (v : ℤ). IsObject model v c.in-Some.object.now) cast c.in-Some.ensures in
    λ class. (
      λ both. (c.line_with.ensures class).0 (both.0, (subst (λ (o : Object). IsUnder model o.class class) (object_once model c.args.value both.1.0 c.in-Some.object.now both.1.1 there) both.1.2)),
      λ on. let both = (c.line_with.ensures class).1 on in (both.0, (c.in-Some.object.now, there, both.1)),
    )

pub returns-in-None : goal.returns-in-None
returns-in-None c =
    let cast : to_z w32 (of_z w32 c.args.value) ≡ c.args.value = omega (arith, ints) in
    λ class. (λ both. absurd (c.in-None.ensures both.1.0 (subst (λ (v : ℤ). IsObject c.args.model.now v both.1.0) (sym cast) both.1.1)), λ on. absurd on)
