use Rattle.std.proofs.Common.{◌≡◌, ℤ, w32, to_z, of_z, sym, subst, arith}
use Rattle.std.proofs.lemmas.Int.{ints}
use Rattle.model_core.specs.declared.class.Object.{Object}
use Rattle.model_core.specs.Kinds.{IsObject, IsUnder}
use Rattle.model_typing.specs.declared.line.Line.TheVariants as lines
use Rattle.model_typing.proofs.Lined.{line_found, line_none}
use Rattle.model_typing.proofs.Under.{object_once}
use Rattle.model_typing.proofs.lines.value_line.Goals as goal

pub returns-in-Some : goal.returns-in-Some
returns-in-Some c =
    let model = c.args.model.now in
    let value = c.args.value in
    let object = c.in-Some.object.now in
    let cast : to_z w32 (of_z w32 value) ≡ value = omega (arith, ints) in
    let there : IsObject model value object = subst (λ (v : ℤ). IsObject model v object) cast c.in-Some.ensures in
    line_found model (lines.From object.class) (IsObject model value) (λ class (a : Object). IsUnder model a.class class) object there (λ other at. object_once model value other object at there)
    (λ class. (λ under. under, λ on. on))

pub returns-in-None : goal.returns-in-None
returns-in-None c =
    let model = c.args.model.now in
    let value = c.args.value in
    let cast : to_z w32 (of_z w32 value) ≡ value = omega (arith, ints) in
    line_none model (IsObject model value) (λ class (a : Object). IsUnder model a.class class) (λ object at. c.in-None.ensures object (subst (λ (v : ℤ). IsObject model v object) (sym cast) at))
