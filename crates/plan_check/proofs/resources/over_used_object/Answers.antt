use Rattle.std.proofs.Common.{◌≡◌, w32, to_z, of_z, arith}
use Rattle.std.proofs.lemmas.Int.{ints}
use Rattle.plan_check.proofs.Sorting.{ok_same, reusable_finds}
use Rattle.plan_check.proofs.resources.over_used_object.Goals as goal

pub returns-in-Reusable : goal.returns-in-Reusable
returns-in-Reusable c =
    let cast : to_z w32 (of_z w32 c.in-Reusable.capacity) ≡ c.in-Reusable.capacity = omega (arith, ints) in
    ok_same c.over_used.result _ _ (λ found finds.
    reusable_finds c.args.model.now c.args.plan.now c.args.number c.args.object.now c.requires.there c.in-Reusable.capacity (to_z w32 (of_z w32 c.in-Reusable.capacity)) found cast c.in-Reusable.is finds)
    c.over_used.ensures
