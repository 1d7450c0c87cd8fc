-- Outside of both limits is past the one or past the other.
use Rattle.std.proofs.Common.{ℤ, ◌≡◌, w32, to_z, of_z, arith}
use Rattle.std.specs.Prelude.{IfSome, IfNone}
use Rattle.std.proofs.lemmas.Int.{ints}
use Rattle.resource_profile.specs.Instant.{IsFirst}
use Rattle.resource_profile.specs.Level.{IsPastFrom}
use Rattle.resource_profile.specs.declared.level.Limit.TheVariants.{Low, High}
use Rattle.resource_profile.proofs.Firsts.{along_three}
use Rattle.resource_profile.proofs.Places.{first_level_out}
use Rattle.resource_profile.proofs.level.level_out.Goals as goal

pub returns-clause-first : goal.returns-clause-first
returns-clause-first c =
    let changes = c.args.changes.now in
    let below = c.level_past-below.result in
    let above = c.level_past-above.result in
    let initial : to_z w32 (of_z w32 c.args.initial) ≡ c.args.initial = omega (arith, ints) in
    let low : to_z w32 (of_z w32 c.args.low) ≡ c.args.low = omega (arith, ints) in
    let high : to_z w32 (of_z w32 c.args.high) ≡ c.args.high = omega (arith, ints) in
    let from : to_z w32 (of_z w32 c.args.from) ≡ c.args.from = omega (arith, ints) in
    first_level_out changes c.args.initial c.args.low c.args.high c.args.from below above c.earlier.result c.earlier.ensures
    (along_three (λ z l f. IfSome below (IsFirst (IsPastFrom changes z (Low l) f))) _ _ _ _ _ _ initial low from c.level_past-below.ensures.first)
    (along_three (λ z l f. IfNone below ((instant : ℤ) → IsPastFrom changes z (Low l) f instant → ⊥)) _ _ _ _ _ _ initial low from c.level_past-below.ensures.none)
    (along_three (λ z l f. IfSome above (IsFirst (IsPastFrom changes z (High l) f))) _ _ _ _ _ _ initial high from c.level_past-above.ensures.first)
    (along_three (λ z l f. IfNone above ((instant : ℤ) → IsPastFrom changes z (High l) f instant → ⊥)) _ _ _ _ _ _ initial high from c.level_past-above.ensures.none)
