-- A reusable that keeps its capacity, or doesn't.
use Rattle.std.proofs.Common.{◌≡◌, ◌↔◌, ℤ, Bool, IsTrue, pos, w32, to_z, of_z, sym, subst, arith}
use Rattle.std.proofs.lemmas.Int.{ints}
use Rattle.model_core.specs.declared.class.Object.{Object}
use Rattle.model_core.specs.declared.class.ObjectKind.TheVariants.{Reusable}
use Rattle.std.specs.Prelude.{slice_get, Some}
use Rattle.plan_defs.specs.Resources.{IsInstant, KeepsCapacity}
use Rattle.db_resources.proofs.Fitting.{reusable_told, ok_told}
use Rattle.db_resources.proofs.fit.reusable_fits.Goals as goal

pub returns-in-Some : goal.returns-in-Some
returns-in-Some g c =
    let model = g.V.View.model c.args.view.now in
    let decisions = g.V.View.decisions c.args.view.now in
    let state = g.V.View.state c.args.view.now in
    let value = to_z w32 c.args.object in
    let few = c.in-Some.ensures.0 in
    let values : value ≡ pos c.args.object = omega (arith, ints, few) in
    let capacity = to_z w32 (of_z w32 c.in-Some.capacity) in
    let same : capacity ≡ c.in-Some.capacity = omega (arith, ints) in
    let there = subst (λ m. (object : Object) × (slice_get m.objects c.args.object ≡ Some object) × (object.kind ≡ Reusable c.in-Some.capacity)) (sym c.requires.model) c.in-Some.ensures.2 in
    ok_told c.keeps_capacity.result
    (λ (told : Bool) (keeps : IsTrue told ↔ ((instant : ℤ) → IsInstant model instant → KeepsCapacity model decisions state value instant capacity)).
    reusable_told model decisions state c.args.object value c.in-Some.capacity told values there
    (subst (λ n. IsTrue told ↔ ((instant : ℤ) → IsInstant model instant → KeepsCapacity model decisions state value instant n)) same keeps))
    c.keeps_capacity.ensures
