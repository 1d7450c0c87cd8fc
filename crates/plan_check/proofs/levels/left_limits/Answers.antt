use Rattle.std.proofs.Common.{◌≡◌, ℤ, pos, List, All, FitsSigned, sym, subst, w32, to_z, of_z, rules, arith}
use Rattle.std.specs.Prelude.{IfSome, IfNone}
use Rattle.std.proofs.lemmas.Int.{ints, to_z-of_z}
use Rattle.resource_profile.specs.declared.level.LevelChange.{LevelChange}
use Rattle.resource_profile.specs.Level.{IsSmall, IsOutFrom}
use Rattle.resource_profile.specs.Instant.{IsFirst}
use Rattle.plan_check.specs.Acts.{Collects, IsChangeOf}
use Rattle.plan_check.proofs.Rising.{along_four, all_small, out_found}
use Rattle.plan_check.proofs.levels.left_limits.Goals as goal

pub level_out-requires : goal.level_out-requires
level_out-requires c =
    subst (λ (xs : List LevelChange). All IsSmall xs) (sym c.as_slice-changes_by_line.ensures.value)
    (all_small c.args.model.now c.args.plan.now c.requires.lawful c.requires.orderly c.requires.tokens (pos c.args.object) c.in_ok-changes.changes.items c.in_ok-changes.ensures)

pub returns : goal.returns
returns c =
    let model = c.args.model.now in
    let plan = c.args.plan.now in
    let changes = c.as_slice-changes_by_line.result.now in
    let found = c.level_out.result in
    let early = c.requires.lawful.horizon.start in
    let order = c.requires.lawful.horizon.order in
    let end = c.requires.lawful.horizon.end in
    let levels = c.args.levels in
    let initial_fits : FitsSigned w32 levels.initial = search rules in
    let low_fits : FitsSigned w32 levels.low = search rules in
    let high_fits : FitsSigned w32 levels.high = search rules in
    let initial = to_z-of_z w32 levels.initial initial_fits in
    let low = to_z-of_z w32 levels.low low_fits in
    let high = to_z-of_z w32 levels.high high_fits in
    let start : to_z w32 (of_z w32 model.problem.start) ≡ model.problem.start = omega (arith, ints, early, order, end) in
    let collected = subst (λ (xs : List LevelChange). Collects (IsChangeOf model (pos c.args.object)) plan.lines xs) (sym c.as_slice-changes_by_line.ensures.value) c.in_ok-changes.ensures in
    out_found model plan c.requires.lawful c.requires.orderly c.requires.tokens (pos c.args.object) changes collected levels.initial levels.low levels.high found
    (along_four (λ i l h s. IfSome found (IsFirst (IsOutFrom changes i l h s))) _ _ _ _ _ _ _ _ initial low high start c.level_out.ensures.first)
    (along_four (λ i l h s. IfNone found ((instant : ℤ) → IsOutFrom changes i l h s instant → ⊥)) _ _ _ _ _ _ _ _ initial low high start c.level_out.ensures.none)
