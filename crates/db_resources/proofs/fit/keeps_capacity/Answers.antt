-- The first instant of too much use, or none, tells whether the capacity is kept.
use Rattle.std.proofs.Common.{◌≡◌, ◌≤ℤ◌, ◌↔◌, ℤ, pos, IsTrue, w32, to_z, of_z, subst, sym, arith}
use Rattle.std.proofs.lemmas.Int.{ints}
use Rattle.plan_defs.specs.Resources.{IsInstant, KeepsCapacity}
use Rattle.db_resources.specs.Effects.{IsUseOn}
use Rattle.db_resources.specs.Picks.{Picks}
use Rattle.db_resources.proofs.Using.{told, quantities}
use Rattle.db_resources.proofs.fit.keeps_capacity.Goals as goal

pub over_use-requires-clause-quantities : goal.over_use-requires-clause-quantities
over_use-requires-clause-quantities g c =
    let state = g.V.View.state c.args.view.now in
    let object = to_z w32 (of_z w32 c.args.object) in
    let using : Picks (IsUseOn state object) c.args.actors.now c.as_slice.result.now = subst (Picks (IsUseOn state object) c.args.actors.now) (sym c.as_slice.ensures.value) c.in_ok-uses.ensures in
    quantities (g.V.View.model c.args.view.now) (g.V.View.decisions c.args.view.now) state c.requires.sound object c.args.actors.now c.as_slice.result.now c.requires.actors using

pub returns : goal.returns
returns g c =
    let model = g.V.View.model c.args.view.now in
    let decisions = g.V.View.decisions c.args.view.now in
    let state = g.V.View.state c.args.view.now in
    let object = to_z w32 (of_z w32 c.args.object) in
    let capacity = to_z w32 (of_z w32 c.args.capacity) in
    let same_object : object ≡ c.args.object = omega (arith, ints) in
    let same_capacity : capacity ≡ c.args.capacity = omega (arith, ints) in
    let using : Picks (IsUseOn state object) c.args.actors.now c.as_slice.result.now = subst (Picks (IsUseOn state object) c.args.actors.now) (sym c.as_slice.ensures.value) c.in_ok-uses.ensures in
    let room : pos 0 ≤ℤ capacity = omega (arith, ints, c.requires.capacity) in
    let answer = told model decisions state c.requires.sound object c.args.actors.now c.as_slice.result.now c.requires.actors using capacity c.over_use.result c.is_none.result
    room c.is_none.ensures c.over_use.ensures.first c.over_use.ensures.none in
    subst (λ o. IsTrue c.is_none.result ↔ ((instant : ℤ) → IsInstant model instant → KeepsCapacity model decisions state o instant c.args.capacity)) same_object
    (subst (λ n. IsTrue c.is_none.result ↔ ((instant : ℤ) → IsInstant model instant → KeepsCapacity model decisions state object instant n)) same_capacity answer)
