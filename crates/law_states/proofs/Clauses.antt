-- The plan of a state without a flaw keeps each clause.
use Rattle.std.proofs.Common.{List}
use Rattle.model_core.specs.declared.decision.Decision.{Decision}
use Rattle.model_core.specs.declared.model.Model.{Model}
use Rattle.model_core.specs.State.{State}
use Rattle.plan_defs.specs.declared.plan.Clause.{Clause}
use Rattle.plan_defs.specs.declared.plan.Clause.TheVariants.{V1, V2, V3, V4, V5, V6, V7, V8, V9, V10}
use Rattle.plan_defs.specs.declared.plan.Place.{Place}
use Rattle.plan_defs.specs.declared.plan.Plan.{Plan}
use Rattle.plan_defs.specs.Closure.{IsClosed}
use Rattle.plan_defs.specs.Valid.{IsClauseKept, IsValid}
use Rattle.law_states.specs.Soundness.{IsFlawlessPlan}
use Rattle.law_states.proofs.Asking.{keeps_open, keeps_asked, keeps_items}
use Rattle.law_states.proofs.Certain.{token_complete}
use Rattle.law_states.proofs.Keeping.{keeps_globals, keeps_roots, keeps_tokens, keeps_merges, keeps_timelines}
use Rattle.law_states.proofs.Levelling.{keeps_reservoirs}
use Rattle.law_states.proofs.Using.{keeps_reusables}

pub is_valid : (model : Model) (decisions : List Decision) (state : State) (plan : Plan) → IsFlawlessPlan model decisions state plan → IsClosed model decisions state
    → IsValid model plan
is_valid model decisions state plan is closed = keeps
  where
    keeps : (clause : Clause) (place : Place) → IsClauseKept model plan clause place
    keeps V1 place = keeps_globals model decisions state plan is place
    keeps V2 place = keeps_roots model decisions state plan is place
    keeps V3 place = keeps_tokens model decisions state plan is place
    keeps V4 place = keeps_merges model decisions state plan is place
    keeps V5 place = keeps_open model decisions state plan is place
    keeps V6 place = keeps_asked model decisions state plan is place
    keeps V7 place = keeps_items model decisions state plan is place
    keeps V8 place = keeps_timelines model decisions state plan is place
    keeps V9 place = keeps_reusables model decisions state plan is closed.reusables place
    keeps V10 place = keeps_reservoirs model decisions state plan is closed.reservoirs (token_complete model decisions state plan is) place
