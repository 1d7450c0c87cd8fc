use Rattle.std.proofs.Common.{ℕ, ◌-◌, ◌<◌, ◌≤◌, length}
use Rattle.eu_name.specs.NameOrder.{IsVarBefore}
use Rattle.plan_defs.specs.declared.plan.Line.{Line}
use Rattle.plan_defs.specs.Plans.{order_name}
use Rattle.plan_defs.specs.Valid.{IsLineAt}
use Rattle.plan_values.specs.Keys.{key_name}
use Rattle.plan_values.proofs.lines.place_of.Given as goal

-- the lines below the low place come before the name, and those from the high one on come after it
abbrev pub invariant-loop-low : goal.invariant-loop-low
invariant-loop-low l = record {
  within : l.high ≤ length l.lines;
  lower : (place : ℕ) (line : Line) → place < l.low → IsLineAt l.plan place line → IsVarBefore (order_name line) (key_name l.key);
  upper : (place : ℕ) (line : Line) → l.high ≤ place → IsLineAt l.plan place line → IsVarBefore (key_name l.key) (order_name line);
}

abbrev pub decreases-loop-low : goal.decreases-loop-low
decreases-loop-low l = l.high - l.low
