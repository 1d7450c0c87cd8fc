use Rattle.std.proofs.Common.{◌-◌}
use Rattle.model_core.specs.declared.model.Model.{Model}
use Rattle.model_core.specs.History.{History}
use Rattle.db_history.specs.Kept.{KeepsHistory}
use Rattle.conflict_core.specs.Turns.{GrownBy}
use Rattle.conflict_core.proofs.turns.take_back.Given as goal

abbrev pub invariant-loop-step : goal.invariant-loop-step
invariant-loop-step l =
    (model : Model) (former : History) → GrownBy l.number former l.initial.log → KeepsHistory model l.initial.log l.initial.kept
    → GrownBy (l.number - l._step) former l.log × KeepsHistory model l.log l.kept
