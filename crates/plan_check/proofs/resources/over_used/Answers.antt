use Rattle.std.proofs.Common.{◌≡◌, ℤ, pos, ◌≤ℤ◌, List, All, sym, subst, w32, to_z, of_z, arith}
use Rattle.std.proofs.lemmas.Int.{ints}
use Rattle.resource_profile.specs.declared.usage.Use.{Use}
use Rattle.plan_defs.specs.Resources.{IsInstant}
use Rattle.plan_defs.specs.Valid.{IsWithinCapacity}
use Rattle.plan_check.specs.Acts.{Collects, IsUseOf, FindsInstant}
use Rattle.plan_check.proofs.Using.{quantities, first_found}
use Rattle.plan_check.proofs.resources.over_used.Goals as goal

pub over_use-requires-clause-quantities : goal.over_use-requires-clause-quantities
over_use-requires-clause-quantities c =
    subst (λ (xs : List Use). All (λ (usage : Use). pos 0 ≤ℤ usage.quantity) xs) (sym c.as_slice.ensures.value)
    (quantities c.args.model.now c.args.plan.now c.requires.lawful c.requires.orderly c.requires.tokens (pos c.args.object) c.in_ok-uses.uses.items c.in_ok-uses.ensures)

pub returns : goal.returns
returns c =
    let capacity = to_z w32 (of_z w32 c.args.capacity) in
    let cast : capacity ≡ c.args.capacity = omega (arith, ints) in
    let object = pos c.args.object in
    let some = c.requires.capacity in
    let collected = subst (λ (xs : List Use). Collects (IsUseOf c.args.model.now object) c.args.plan.now.lines xs) (sym c.as_slice.ensures.value) c.in_ok-uses.ensures in
    subst (λ (k : ℤ). FindsInstant (λ instant. IsInstant c.args.model.now instant → IsWithinCapacity c.args.model.now object instant c.args.plan.now k) c.over_use.result) cast
    (first_found c.args.model.now c.args.plan.now c.requires.lawful c.requires.orderly c.requires.tokens object c.as_slice.result.now collected capacity (omega (arith, ints, some, cast))
    c.over_use.result c.over_use.ensures.first c.over_use.ensures.none)
