-- The first instant past the limit lies behind the end, or it doesn't.
use Rattle.std.proofs.Common.{◌≡◌, w32, to_z, of_z, arith}
use Rattle.std.proofs.lemmas.Int.{ints}
use Rattle.resource_profile.specs.Instant.{IsFirst}
use Rattle.resource_profile.specs.Level.{IsPastFrom}
use Rattle.resource_profile.proofs.Firsts.{along_two}
use Rattle.db_resources.proofs.Levelling.{limit_told}
use Rattle.db_resources.proofs.fit.keeps_limit.Goals as goal

pub returns-in-Some : goal.returns-in-Some
returns-in-Some c =
    let initial : to_z w32 (of_z w32 c.args.initial) ≡ c.args.initial = omega (arith, ints) in
    let start : to_z w32 (of_z w32 c.args.start) ≡ c.args.start = omega (arith, ints) in
    let first = along_two (λ z f. IsFirst (IsPastFrom c.args.changes.now z c.args.limit f) c.in-Some.first) _ _ _ _ initial start c.in-Some.ensures.first in
    limit_told c.args.changes.now c.args.initial c.args.limit c.args.start c.args.end c.in-Some.first _ (λ before. grind (arith, ints)) (λ after. grind (arith, ints)) first
