use Rattle.std.proofs.Common.{◌≡◌, ◌+ℤ◌, pos, w32, to_z, of_z, subst, get_or, drop, ◌+◌, arith}
use Rattle.std.proofs.lemmas.Int.{ints}
use mir.Syntax.{w128}
use Rattle.resource_profile.specs.Level.{added_at, level_at}
use Rattle.resource_profile.specs.declared.level.LevelChange.{LevelChange}
use Rattle.resource_profile.proofs.Sums.{level_more, added_small}
use Rattle.resource_profile.proofs.level.level_at.Goals as goal

pub loop-change-preserved : goal.loop-change-preserved
loop-change-preserved c =
    let loop = c.loop-change in
    let changes = c.args.changes.now in
    let instant = to_z w32 (of_z w32 c.args.instant) in
    let none : LevelChange = record { at = pos 0; add = pos 0 } in
    let change = get_or changes loop.change-index none in
    let level = to_z w128 loop.level-bits in
    let small = added_small change instant (c.requires loop.change-index none c.loop-change-test.true) in
    let sum : level +ℤ added_at change instant ≡ to_z w128 (of_z w128 (level +ℤ to_z w128 (of_z w128 c.from-level-in-loop-change.result))) = omega (arith, ints) in
    record {
      rest = subst (λ sum. level_at (drop (loop.change-index + 1) changes) sum instant ≡ level_at changes (to_z w32 (of_z w32 c.args.initial)) instant) sum
          (level_more changes (to_z w32 (of_z w32 c.args.initial)) instant level loop.change-index none c.loop-change-test.true loop.invariant.rest);
      low = omega (arith, ints);
      high = omega (arith, ints);
    }
