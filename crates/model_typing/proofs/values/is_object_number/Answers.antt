use Rattle.std.proofs.Common.{◌≡◌, ℤ, w32, to_z, of_z, sym, subst, arith}
use Rattle.std.proofs.lemmas.Int.{ints}
use Rattle.model_core.specs.declared.class.Object.{Object}
use Rattle.model_core.specs.Kinds.{IsObject}
use Rattle.model_typing.proofs.Telling.{told_not, told_so}
use Rattle.model_typing.proofs.values.is_object_number.Goals as goal

pub returns-in-Some : goal.returns-in-Some
returns-in-Some c =
    let cast : to_z w32 (of_z w32 c.args.value) ≡ c.args.value = omega (arith, ints) in
    told_so _ (subst (λ (v : ℤ). (object : Object) × IsObject c.args.model.now v object) cast (_, c.in-Some.ensures))

pub returns-in-None : goal.returns-in-None
returns-in-None c =
    let cast : to_z w32 (of_z w32 c.args.value) ≡ c.args.value = omega (arith, ints) in
    told_not _ (λ has. c.in-None.ensures has.0 (subst (λ (v : ℤ). IsObject c.args.model.now v has.0) (sym cast) has.1))
