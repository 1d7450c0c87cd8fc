-- What is told of a variable, and why nothing is told.
use Rattle.std.specs.Prelude.{◌≡◌, ◌⊎◌, List, ℕ}
use Rattle.domain_core.specs.Domain.{Domain}
use Rattle.eu_name.specs.declared.name.VarName.{VarName}
use Rattle.model_core.specs.declared.model.Model.{Model}
use Rattle.model_core.specs.declared.refusal.Refusal.TheVariants.{Unknown}
use Rattle.model_core.specs.State.{State, Gives}
use Rattle.plan_db.specs.declared.fault.Outcome.TheVariants as outcome
use Rattle.plan_db.specs.declared.fault.QueryFault.{QueryFault}
use Rattle.plan_db.specs.declared.fault.QueryFault.TheVariants as query
use Rattle.session_replies.specs.Lines.{with_line_feed, IsDomainLine}
use Rattle.session_core.specs.declared.reason.RefusalReason.TheVariants as reason
use Rattle.session_core.specs.Reasons.{outcome_text, refusal}

-- the reply says why nothing is told of a variable, or nothing is seen
abbrev pub SaysUntold : QueryFault → List ℕ → Type 0
SaysUntold query.Inconsistent reply = reply ≡ outcome_text outcome.Inconsistent
SaysUntold query.Unknown reply = reply ≡ refusal (reason.Decision Unknown)
SaysUntold query.Behind reply = ⊥

-- the domain of the variable, or that the state hasn't the variable
abbrev pub TellsVariable : Model → VarName → State → List ℕ → Type 0
TellsVariable model name state reply =
    ((domain : Domain) × (line : List ℕ)
    × (Gives state name domain × IsDomainLine model name domain line × (reply ≡ with_line_feed line)))
    ⊎ (((domain : Domain) → Gives state name domain → ⊥) × (reply ≡ refusal (reason.Decision Unknown)))
