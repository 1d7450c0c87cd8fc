use Rattle.std.proofs.Common.{◌≡◌, w32, to_z, of_z, arith}
use Rattle.std.proofs.lemmas.Int.{ints}
use Rattle.plan_check.proofs.Sorting.{ok_same, reservoir_finds}
use Rattle.plan_check.proofs.levels.left_limits_of.Goals as goal

pub returns-in-Reservoir : goal.returns-in-Reservoir
returns-in-Reservoir c =
    let initial : to_z w32 (of_z w32 c.in-Reservoir.initial) ≡ c.in-Reservoir.initial = omega (arith, ints) in
    let low : to_z w32 (of_z w32 c.in-Reservoir.low) ≡ c.in-Reservoir.low = omega (arith, ints) in
    let high : to_z w32 (of_z w32 c.in-Reservoir.high) ≡ c.in-Reservoir.high = omega (arith, ints) in
    ok_same c.left_limits.result _ _ (λ found finds.
    reservoir_finds c.args.model.now c.args.plan.now c.args.number c.args.object.now c.requires.there c.in-Reservoir.initial c.in-Reservoir.low c.in-Reservoir.high
    (to_z w32 (of_z w32 c.in-Reservoir.initial)) (to_z w32 (of_z w32 c.in-Reservoir.low)) (to_z w32 (of_z w32 c.in-Reservoir.high)) found initial low high c.in-Reservoir.is finds)
    c.left_limits.ensures
