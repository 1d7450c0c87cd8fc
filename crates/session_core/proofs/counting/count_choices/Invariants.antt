use Rattle.std.proofs.Common.{◌-◌, ◌≤◌, List, length}
use Rattle.model_core.specs.declared.decision.Decision.{Decision}
use Rattle.flaw_core.specs.Rules.{AreChoicesAt}
use Rattle.session_core.proofs.counting.count_choices.Given as goal

abbrev pub invariant-loop-least : goal.invariant-loop-least
invariant-loop-least g l = record {
  bounds : l.least ≤ l.most;
  counted : (choices : List Decision) → AreChoicesAt l.model (g.V.View.decisions l.view) (g.V.View.state l.view) 512 l.flaw choices
      → (l.least ≤ length choices) × (length choices ≤ l.most);
}

abbrev pub decreases-loop-least : goal.decreases-loop-least
decreases-loop-least g l = l.most - l.least
