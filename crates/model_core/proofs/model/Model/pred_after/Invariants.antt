use Rattle.std.proofs.Common.{ℕ, drop}
use Rattle.model_core.specs.Lookup.{LeadsOn}
use Rattle.model_core.proofs.model.Model.pred_after.Given as goal

-- the steps that are left lead from here to where all of them lead from the first
abbrev pub invariant-loop-step : goal.invariant-loop-step
invariant-loop-step l =
    (reached : ℕ) → (LeadsOn l.self l.pred (drop l.step-index l.steps) reached → LeadsOn l.self l.first l.steps reached)
    × (LeadsOn l.self l.first l.steps reached → LeadsOn l.self l.pred (drop l.step-index l.steps) reached)
