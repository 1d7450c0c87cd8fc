use Rattle.std.proofs.Common.{ℕ, ◌<◌}
use Rattle.plan_defs.specs.declared.plan.Line.{Line}
use Rattle.plan_defs.specs.Valid.{IsLineAt, IsAsked}
use Rattle.plan_inventory.specs.Recalling.{Recalls}
use Rattle.plan_inventory.proofs.asked.unasked_line.Given as goal

abbrev pub invariant-loop-place : goal.invariant-loop-place
invariant-loop-place l = record {
  before : (earlier : ℕ) (other : Line) → earlier < l.place → IsLineAt l.plan earlier other → IsAsked l.model l.plan other;
  asking : Recalls l.model l.plan l.asking;
  own : Recalls l.model l.plan l.own;
}
