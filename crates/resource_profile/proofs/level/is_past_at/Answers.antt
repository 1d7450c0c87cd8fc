use Rattle.std.proofs.Common.{◌≡◌, ◌↔◌, IsTrue, w32, to_z, of_z, ◌∙◌, subst, ap, arith}
use Rattle.std.proofs.lemmas.Int.{ints}
use mir.Syntax.{w128}
use Rattle.resource_profile.specs.Level.{level_at, IsPast}
use Rattle.resource_profile.proofs.level.is_past_at.Goals as goal

pub returns : goal.returns
returns c =
    let changes = c.args.changes.now in
    let initial : to_z w32 (of_z w32 c.args.initial) ≡ c.args.initial = omega (arith, ints) in
    let instant : to_z w32 (of_z w32 c.args.instant) ≡ c.args.instant = omega (arith, ints) in
    let cast : to_z w128 (of_z w128 c.level_at.result) ≡ c.level_at.result = omega (arith, ints) in
    let level = cast ∙ c.level_at.ensures ∙ ap (λ z. level_at changes z (to_z w32 (of_z w32 c.args.instant))) initial ∙ ap (level_at changes c.args.initial) instant in
    subst (λ l. IsTrue c.is_past.result ↔ IsPast c.args.limit l) level c.is_past.ensures
