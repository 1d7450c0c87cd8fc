use Rattle.std.proofs.Common.{◌≡◌, ◌∷◌, [], w32, to_z, of_z, arith, subst, ℤ}
use Rattle.std.proofs.lemmas.Int.{ints}
use Rattle.domain_core.specs.Domain.{Set}
use Rattle.tests_samples.proofs.PieceLaws.{alone_is}
use Rattle.tests_samples.proofs.pieces.alone_on.Goals as goal

pub returns-in-Ok : goal.returns-in-Ok
returns-in-Ok c =
    let cast : to_z w32 (of_z w32 c.args.number) ≡ c.args.number = omega (arith, ints) in
    let is : c.in-Ok.domain ≡ Set (to_z w32 (of_z w32 c.args.number) ∷ []) = alone_is (to_z w32 (of_z w32 c.args.number)) c.in-Ok.domain c.in-Ok.ensures in
    subst (λ (number : ℤ). c.in-Ok.domain ≡ Set (number ∷ [])) cast is
