use Rattle.std.specs.Prelude.{take, Contains}
use Rattle.model_rules.proofs.names.is_seen.Given as goal

abbrev pub invariant-loop-other : goal.invariant-loop-other
invariant-loop-other l = Contains (take l.other-index l.seen) l.name → ⊥
