use Rattle.std.proofs.Common.{take, ◌<ℤ◌}
use Rattle.resource_profile.specs.declared.level.LevelChange.{LevelChange}
use Rattle.resource_profile.specs.Level.{IsPastAt}
use Rattle.resource_profile.proofs.Firsts.{IsFirstAmong}
use Rattle.resource_profile.proofs.level.level_past.Given as goal

abbrev pub invariant-loop-change : goal.invariant-loop-change
invariant-loop-change l = IsFirstAmong (λ (change : LevelChange). change.at) (λ at. (l.from <ℤ at) × IsPastAt l.changes l.initial' l.limit at) (take l.change-index l.changes) l.first
