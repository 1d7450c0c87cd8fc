-- The object of this number, whose numbers are values.
use Rattle.std.proofs.Common.{◌≡◌, Some, w32, to_z, of_z, sym, ◌∙◌, ap, arith}
use Rattle.std.specs.Prelude.{slice_get}
use Rattle.std.proofs.lemmas.Int.{ints}
use Rattle.std.proofs.lemmas.Option.{slice_get_within}
use Rattle.model_core.specs.declared.class.ObjectKind.TheVariants.{Reservoir}
use Rattle.db_resources.proofs.Fitting.{reservoir_values}
use Rattle.db_resources.proofs.fit.levels_of.Goals as goal

pub returns : goal.returns
returns c =
    let model = c.args.model.now in
    let object = c.in-Some.object.now in
    let there : slice_get model.objects c.args.number ≡ Some object = sym (c.in-Some.ensures ∙ ap (λ list. slice_get list c.args.number) c.as_slice.ensures) in
    let values = reservoir_values model c.args.number object c.in-Reservoir.initial c.in-Reservoir.low c.in-Reservoir.high c.requires there c.in-Reservoir.is in
    let least = values.0 in
    let most = values.1 in
    let initial : c.in-Reservoir.initial ≡ to_z w32 (of_z w32 c.in-Reservoir.initial) = omega (arith, ints, least.0, most.1, values.2, values.3) in
    let low : c.in-Reservoir.low ≡ to_z w32 (of_z w32 c.in-Reservoir.low) = omega (arith, ints, least.0, least.1) in
    let high : c.in-Reservoir.high ≡ to_z w32 (of_z w32 c.in-Reservoir.high) = omega (arith, ints, most.0, most.1) in
    let few = c.requires.few_objects in
    let within = slice_get_within model.objects c.args.number object there in
    (omega (arith, few, within), (object, there, c.in-Reservoir.is ∙ (λ i. Reservoir (initial i) (low i) (high i))))
