use Rattle.std.proofs.Common.{take}
use Rattle.resource_profile.specs.declared.usage.Use.{Use}
use Rattle.resource_profile.specs.Usage.{IsOverUsed}
use Rattle.resource_profile.proofs.Firsts.{IsFirstAmong}
use Rattle.resource_profile.proofs.usage.over_use.Given as goal

abbrev pub invariant-loop-usage : goal.invariant-loop-usage
invariant-loop-usage l = IsFirstAmong (λ (usage : Use). usage.from) (IsOverUsed l.uses l.capacity) (take l.usage-index l.uses) l.first
