-- What can't be missing in a session over a sound database.
use Rattle.std.specs.Prelude.{ℕ, ◌≤◌, ◌⊎◌, ⊤, List}
use Rattle.session_loop.specs.declared.reply.Answer.{Answer}
use Rattle.session_loop.specs.Sessions.{Standing, Course, Session}
use Rattle.model_core.specs.declared.decision.Decision.{Decision}
use Rattle.model_core.specs.declared.model.Model.{Model}
use Rattle.model_core.specs.Lawful.{IsLawful}
use Rattle.model_core.specs.State.{State}
use Rattle.plan_text.specs.PlanTexts.{IsPlanText}
use Rattle.plan_db.specs.Database.{Database, IsSound, HasLeast, HasCollapsed}
use Rattle.plan_defs.specs.declared.plan.Plan.{Plan}
use Rattle.plan_defs.specs.Closure.{IsLeast}
use Rattle.plan_defs.specs.Flaws.{HasFlaw}
use Rattle.plan_defs.specs.Settling.{IsSettled}
use Rattle.plan_defs.specs.StatePlans.{IsStatePlan}
use Rattle.law_states.specs.Undeniable.{Undeniable}
use Rattle.script_lang.specs.declared.command.Command.{Command}
use Rattle.script_lang.specs.declared.command.Command.TheVariants.{Solve}
use Rattle.session_core.specs.LineReplies.{AnswersLine}
use Rattle.session_core.specs.Replies.{TellsCycle, RepliesTo}

-- the command has a reply that leaves a sound database
abbrev pub HasReply : Database → Command → Type 0
HasReply old command = (reply : List ℕ) × ((new : Database) × (RepliesTo old command reply new × IsSound new))

-- the decisions that stand in a sound database leave nothing, or they have a least state
abbrev pub DatabasesCollapseOrHaveLeast : Type 0
DatabasesCollapseOrHaveLeast =
    (database : Database)
    → IsSound database → Undeniable (HasCollapsed database ⊎ ((state : State) × HasLeast database state))

-- where the decisions that stand leave nothing, their cycle can be told
abbrev pub CollapsesHaveCycles : Type 0
CollapsesHaveCycles =
    (database : Database)
    → IsSound database → HasCollapsed database → Undeniable ((reply : List ℕ) × TellsCycle database reply)

-- the command asks for no search
abbrev pub IsPlainCommand : Command → Type 0
IsPlainCommand (Solve steps tokens) = ⊥
IsPlainCommand command = ⊤

-- such a command has a reply
abbrev pub PlainCommandsHaveReplies : Type 0
PlainCommandsHaveReplies =
    (old : Database) (command : Command) → IsSound old → IsPlainCommand command → Undeniable (HasReply old command)

-- ---- searches and lines

-- the least state of a settled list that has no flaw has a plan, and this has a text
abbrev pub FlawlessStatesHavePlanTexts : Type 0
FlawlessStatesHavePlanTexts =
    (model : Model) (decisions : List Decision) (state : State)
    → IsLawful model → IsSettled model decisions → IsLeast model decisions state → (HasFlaw model decisions state → ⊥)
    → Undeniable ((plan : Plan) × ((text : List ℕ) × (IsStatePlan model decisions state plan × IsPlanText model plan text)))

-- a search has a reply
abbrev pub SearchesHaveReplies : Type 0
SearchesHaveReplies =
    (old : Database) (steps tokens : ℕ) → IsSound old → tokens ≤ 512 → Undeniable (HasReply old (Solve steps tokens))

-- each line has an answer that leaves a sound database
abbrev pub LinesHaveAnswers : Type 0
LinesHaveAnswers =
    (old : Database) (line : List ℕ)
    → IsSound old → Undeniable ((answer : Answer) × ((new : Database) × (AnswersLine old line answer new × IsSound new)))

-- and lines have a session
abbrev pub LinesHaveSessions : Type 0
LinesHaveSessions =
    (start : Standing Database) (lines : List (List ℕ))
    → IsSound start.responder → Undeniable ((course : Course Database) × Session AnswersLine start lines course)
