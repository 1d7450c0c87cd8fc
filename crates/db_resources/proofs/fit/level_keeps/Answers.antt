-- What was found are the changes, and they keep the limit or don't.
use Rattle.std.proofs.Common.{◌≡◌, ◌↔◌, ◌≤ℤ◌, IsTrue, ℤ, w32, to_z, of_z, sym, ap, subst, arith}
use Rattle.std.proofs.lemmas.Int.{ints}
use Rattle.model_core.specs.declared.model.Model.{Model}
use Rattle.db_resources.specs.Effects.{IsChangeOf, decisive}
use Rattle.db_resources.specs.Picks.{Picks}
use Rattle.db_resources.proofs.Levelling.{changes_small}
use Rattle.db_resources.proofs.fit.level_keeps.Goals as goal
use Rattle.resource_profile.proofs.Firsts.{along_three}
use Rattle.resource_profile.specs.Level.{IsPastAt}

pub keeps_limit-requires : goal.keeps_limit-requires
keeps_limit-requires g c =
    let state = g.V.View.state c.args.view.now in
    let object = to_z w32 (of_z w32 c.args.object) in
    changes_small state object c.decisive.result c.args.actors.now c.as_slice.result.now c.requires.bounded
    (subst (Picks (IsChangeOf state object c.decisive.result) c.args.actors.now) (sym c.as_slice.ensures.value) c.in_ok-changes.ensures)

pub returns : goal.returns
returns g c =
    let state = g.V.View.state c.args.view.now in
    let changes = c.as_slice.result.now in
    let object : to_z w32 (of_z w32 c.args.object) ≡ c.args.object = omega (arith, ints) in
    let initial : to_z w32 (of_z w32 c.args.initial) ≡ c.args.initial = omega (arith, ints) in
    let horizon = c.requires.sound.lawful.horizon in
    let starts = ap (λ (m : Model). m.problem.start) c.requires.model in
    let ends = ap (λ (m : Model). m.problem.end) c.requires.model in
    let start : to_z w32 (of_z w32 c.args.model.now.problem.start) ≡ (g.V.View.model c.args.view.now).problem.start = omega (arith, ints, starts, horizon.start, horizon.order, horizon.end.1) in
    let end : to_z w32 (of_z w32 c.args.model.now.problem.end) ≡ (g.V.View.model c.args.view.now).problem.end = omega (arith, ints, ends, horizon.start, horizon.order, horizon.end.1) in
    let changing : Picks (IsChangeOf state c.args.object (decisive c.args.limit)) c.args.actors.now changes =
    subst (λ o. Picks (IsChangeOf state o (decisive c.args.limit)) c.args.actors.now changes) object
    (subst (λ e. Picks (IsChangeOf state (to_z w32 (of_z w32 c.args.object)) e) c.args.actors.now changes) c.decisive.ensures
    (subst (Picks (IsChangeOf state (to_z w32 (of_z w32 c.args.object)) c.decisive.result) c.args.actors.now) (sym c.as_slice.ensures.value) c.in_ok-changes.ensures)) in (
      changes,
      changing,
      along_three (λ z from to. IsTrue c.keeps_limit.result ↔ ((instant : ℤ) → (from ≤ℤ instant) × (instant ≤ℤ to) → IsPastAt changes z c.args.limit instant → ⊥)) _ _ _ _ _ _ initial start end c.keeps_limit.ensures,
    )
