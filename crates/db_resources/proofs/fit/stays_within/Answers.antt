-- Both limits are kept, or one isn't.
use Rattle.std.proofs.Common.{◌≡◌, ◌↔◌, ◌&&◌, ℤ, Bool, true, false, refl, IsTrue, FitsSigned, w32, to_z, of_z, subst, rules, arith}
use Rattle.std.proofs.lemmas.Int.{ints, to_z-of_z}
use Rattle.plan_defs.specs.Resources.{IsInstant, StaysWithin}
use Rattle.db_resources.proofs.Levelling.{told, actors_bounded, along_levels}
use Rattle.db_resources.proofs.fit.stays_within.Goals as goal

-- where the one isn't so, both are as little so
none_enough : (one other : Bool) → one ≡ false → (one && other) ≡ one
none_enough true other is = absurd (let e : true ≡ false = is in cc)
none_enough false other is = refl

pub level_keeps-requires-clause-bounded : goal.level_keeps-requires-clause-bounded
level_keeps-requires-clause-bounded g c = actors_bounded (g.V.View.model c.args.view.now) (g.V.View.decisions c.args.view.now) (g.V.View.state c.args.view.now) c.requires.sound c.args.actors.now c.requires.actors

pub level_keeps-requires-2-clause-bounded : goal.level_keeps-requires-2-clause-bounded
level_keeps-requires-2-clause-bounded g c = actors_bounded (g.V.View.model c.args.view.now) (g.V.View.decisions c.args.view.now) (g.V.View.state c.args.view.now) c.requires.sound c.args.actors.now c.requires.actors

pub returns-then-high_enough : goal.returns-then-high_enough
returns-then-high_enough g c =
    let model = g.V.View.model c.args.view.now in
    let decisions = g.V.View.decisions c.args.view.now in
    let state = g.V.View.state c.args.view.now in
    let up = c.in_ok-high_enough.ensures in
    let down = c.in_ok-low_enough.ensures in
    let high_enough = c.in_ok-high_enough.high_enough in
    let low_enough = c.in_ok-low_enough.low_enough in
    let levels = c.args.levels in
    let object : to_z w32 (of_z w32 c.args.object) ≡ c.args.object = omega (arith, ints) in
    let initial_fits : FitsSigned w32 levels.initial = search rules in
    let low_fits : FitsSigned w32 levels.low = search rules in
    let high_fits : FitsSigned w32 levels.high = search rules in
    let both = told model decisions state c.requires.sound (to_z w32 (of_z w32 c.args.object)) c.args.actors.now c.requires.actors up.0 down.0 up.1 down.1
    (to_z w32 (of_z w32 levels.initial)) (to_z w32 (of_z w32 levels.low)) (to_z w32 (of_z w32 levels.high)) high_enough low_enough up.2 down.2 in
    along_levels model decisions state low_enough _ _ _ _ _ _ _ _ object (to_z-of_z w32 levels.initial initial_fits) (to_z-of_z w32 levels.low low_fits) (to_z-of_z w32 levels.high high_fits)
    (subst (λ (b : Bool). IsTrue (b && low_enough) ↔ ((instant : ℤ) → IsInstant model instant → StaysWithin model decisions state (to_z w32 (of_z w32 c.args.object)) instant
    (to_z w32 (of_z w32 levels.initial)) (to_z w32 (of_z w32 levels.low)) (to_z w32 (of_z w32 levels.high)))) c.if-high_enough.true both)

pub returns-else-high_enough : goal.returns-else-high_enough
returns-else-high_enough g c =
    let model = g.V.View.model c.args.view.now in
    let decisions = g.V.View.decisions c.args.view.now in
    let state = g.V.View.state c.args.view.now in
    let up = c.in_ok-high_enough.ensures in
    let down = c.in_ok-low_enough.ensures in
    let high_enough = c.in_ok-high_enough.high_enough in
    let low_enough = c.in_ok-low_enough.low_enough in
    let levels = c.args.levels in
    let object : to_z w32 (of_z w32 c.args.object) ≡ c.args.object = omega (arith, ints) in
    let initial_fits : FitsSigned w32 levels.initial = search rules in
    let low_fits : FitsSigned w32 levels.low = search rules in
    let high_fits : FitsSigned w32 levels.high = search rules in
    let both = told model decisions state c.requires.sound (to_z w32 (of_z w32 c.args.object)) c.args.actors.now c.requires.actors up.0 down.0 up.1 down.1
    (to_z w32 (of_z w32 levels.initial)) (to_z w32 (of_z w32 levels.low)) (to_z w32 (of_z w32 levels.high)) high_enough low_enough up.2 down.2 in
    along_levels model decisions state high_enough _ _ _ _ _ _ _ _ object (to_z-of_z w32 levels.initial initial_fits) (to_z-of_z w32 levels.low low_fits) (to_z-of_z w32 levels.high high_fits)
    (subst (λ (b : Bool). IsTrue b ↔ ((instant : ℤ) → IsInstant model instant → StaysWithin model decisions state (to_z w32 (of_z w32 c.args.object)) instant
    (to_z w32 (of_z w32 levels.initial)) (to_z w32 (of_z w32 levels.low)) (to_z w32 (of_z w32 levels.high)))) (none_enough high_enough low_enough c.if-high_enough.false) both)
