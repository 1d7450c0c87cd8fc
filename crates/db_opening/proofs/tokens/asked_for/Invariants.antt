use Rattle.std.proofs.Common.{drop}
use Rattle.model_core.specs.declared.rule.Slot.{Slot}
use Rattle.model_core.specs.Tokens.{HasToken, Reaches}
use Rattle.db_opening.specs.Parts.{slot_asked}
use Rattle.db_opening.proofs.tokens.asked_for.Given as goal

abbrev pub invariant-loop-step : goal.invariant-loop-step
invariant-loop-step l = (reached : Slot) → HasToken l.model l.token reached → Reaches l.model (slot_asked l.asked) (drop l.step-index l.step-items) reached
