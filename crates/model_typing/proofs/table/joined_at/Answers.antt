use Rattle.std.proofs.Common.{◌≡◌, w32, to_z, of_z, sym, subst, arith}
use Rattle.std.proofs.lemmas.Int.{ints}
use Rattle.model_core.specs.Kinds.{IsObjectOf}
use Rattle.model_typing.proofs.Each.{nth_once, nth_below}
use Rattle.model_typing.proofs.table.joined_at.Goals as goal

pub returns-in-Some : goal.returns-in-Some
returns-in-Some c =
    let model = c.args.model.now in
    let value = c.in-Some.value in
    let cast : to_z w32 (of_z w32 value) ≡ value = omega (arith, ints) in
    let at = c.in-Some.ensures.some in
    λ class. (
      λ both. (c.joined.ensures class).0 (both.0, subst (IsObjectOf model class) (sym cast) (both.1 value at)),
      λ on. let both = (c.joined.ensures class).1 on in
          (both.0, λ other is. subst (IsObjectOf model class) (nth_once c.args.domain.now c.args.place value other at is) (subst (IsObjectOf model class) cast both.1)),
    )

pub returns-in-None : goal.returns-in-None
returns-in-None c = λ class. (
  λ both. both.0,
  λ on. (on, λ value at. absurd (nth_below c.args.domain.now c.args.place value at c.in-None.ensures.none)),
)
