use Rattle.std.proofs.Common.{ℕ, ◌<◌}
use Rattle.plan_defs.specs.declared.plan.Line.{Line}
use Rattle.plan_defs.specs.Valid.{IsLineAt, SuitsIfMerged}
use Rattle.plan_inventory.proofs.tokens.unsuited_merge.Given as goal

abbrev pub invariant-loop-place : goal.invariant-loop-place
invariant-loop-place l = (earlier : ℕ) (other : Line) → earlier < l.place → IsLineAt l.plan earlier other → SuitsIfMerged l.model l.plan other
