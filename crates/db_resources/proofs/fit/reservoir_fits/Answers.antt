-- A reservoir whose level can stay within its limits, or can't.
use Rattle.std.proofs.Common.{◌≡◌, ◌↔◌, ℤ, Bool, IsTrue, Some, pos, w32, to_z, sym, subst, arith}
use Rattle.std.specs.Prelude.{slice_get}
use Rattle.std.proofs.lemmas.Int.{ints}
use Rattle.model_core.specs.declared.class.Object.{Object}
use Rattle.model_core.specs.declared.class.ObjectKind.TheVariants.{Reservoir}
use Rattle.plan_defs.specs.Resources.{IsInstant, StaysWithin}
use Rattle.db_resources.proofs.Fitting.{reservoir_told, ok_told}
use Rattle.db_resources.proofs.fit.reservoir_fits.Goals as goal

pub returns-in-Some : goal.returns-in-Some
returns-in-Some g c =
    let model = g.V.View.model c.args.view.now in
    let decisions = g.V.View.decisions c.args.view.now in
    let state = g.V.View.state c.args.view.now in
    let value = to_z w32 c.args.object in
    let few = c.in-Some.ensures.0 in
    let levels = c.in-Some.levels in
    let values : value ≡ pos c.args.object = omega (arith, ints, few) in
    let there = subst (λ m. (object : Object) × (slice_get m.objects c.args.object ≡ Some object) × (object.kind ≡ Reservoir levels.initial levels.low levels.high)) (sym c.requires.model) c.in-Some.ensures.1 in
    ok_told c.stays_within.result
    (λ (told : Bool) (stays : IsTrue told ↔ ((instant : ℤ) → IsInstant model instant → StaysWithin model decisions state value instant levels.initial levels.low levels.high)).
    reservoir_told model decisions state c.args.object value levels.initial levels.low levels.high told values there stays)
    c.stays_within.ensures
