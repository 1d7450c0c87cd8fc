-- What the commands of a script are replied, and the database afterwards. Nothing is read but the model, the history, and what the
-- decisions in it leave possible.
use Rattle.std.specs.Prelude.{◌≡◌, ℕ, ◌<◌, ◌⊎◌, List, [], ◌∷◌, length, codes, Result, Ok, Err}
use Rattle.std.specs.List.{AllZip}
use Rattle.domain_core.specs.Domain.{Domain}
use Rattle.eu_name.specs.declared.name.VarName.{VarName}
use Rattle.eu_name.specs.declared.name_text.NameText.{NameText}
use Rattle.model_core.specs.declared.decision.Decision.{Decision}
use Rattle.model_core.specs.declared.decision.Decision.TheVariants as decisions
use Rattle.model_core.specs.declared.model.Model.{Model}
use Rattle.model_core.specs.History.{standing}
use Rattle.model_core.specs.Names.{NamesToken, NamesVariable}
use Rattle.model_core.specs.State.{State, Gives}
use Rattle.db_edges.specs.TimeCycle.{IsTimeCycle}
use Rattle.plan_db.specs.Database.{Database, HasLeast, HasCollapsed, Applies, Resets, TakesBack, RefusesFor, HasFormer, HasDecisionOn}
use Rattle.plan_db.specs.declared.fault.Outcome.{Outcome}
use Rattle.plan_db.specs.declared.fault.Outcome.TheVariants as outcome
use Rattle.plan_db.specs.Edges.{AreStandingEdges}
use Rattle.model_core.specs.declared.refusal.Refusal.{Refusal}
use Rattle.model_core.specs.declared.refusal.Refusal.TheVariants as refusals
use Rattle.plan_defs.specs.Settling.{IsConflict}
use Rattle.db_edges.specs.declared.edge.NamedEdge.{NamedEdge}
use Rattle.law_search.specs.Choices.{IsFirstFlaw, AreChoices}
use Rattle.law_search.specs.Search.{SearchOutcome, Searches}
use Rattle.plan_defs.specs.Flaws.{Flaw, HasFlaw}
use Rattle.db_history.specs.declared.subject.Subject.{Subject}
use Rattle.db_history.specs.declared.subject.Subject.TheVariants as subjects
use Rattle.script_lang.specs.declared.command.Command.{Command}
use Rattle.script_lang.specs.declared.command.Command.TheVariants.{Empty, Specify, Activate, Merge, Reject, Order, Post, Relate}
use Rattle.script_lang.specs.declared.command.Command.TheVariants.{Reset, ResetOrder, Withdraw, Unrelate}
use Rattle.script_lang.specs.declared.command.Command.TheVariants as commands
use Rattle.session_replies.specs.Lines.{with_line_feed, counted_lines, IsDomainLine, IsTokenLine, IsDecisionLine, IsEdgeLine, IsFlawLine}
use Rattle.script_lang.specs.Naming.{AsksDecision, AsksNothing}
use Rattle.flaw_core.specs.declared.ending.SearchEnd.{SearchEnd}
use Rattle.solver_core.specs.Solving.{TellsEnd}
use Rattle.session_replies.specs.Texts.{TellsSearch}
use Rattle.session_core.specs.declared.reason.RefusalReason.{RefusalReason}
use Rattle.session_core.specs.declared.reason.RefusalReason.TheVariants as reason
use Rattle.session_core.specs.Reasons.{refusal, outcome_text, step_text}

-- ---- steps

-- undo could take back 100,000 steps or more
abbrev pub IsFull : Database → Type 0
IsFull database = 100000 < length database.history

-- a full history takes no further step, and this is the reply otherwise
abbrev pub UnlessFull : (List ℕ → Database → Type 0) → Database → List ℕ → Database → Type 0
UnlessFull Replies old reply new =
    (IsFull old × (reply ≡ refusal reason.Full) × (new ≡ old)) ⊎ ((IsFull old → ⊥) × Replies reply new)

-- the reply is that of a step
abbrev pub RepliesStep : (Result Outcome RefusalReason → Database → Type 0) → List ℕ → Database → Type 0
RepliesStep Steps reply new = (step : Result Outcome RefusalReason) × (Steps step new × (reply ≡ step_text step))

-- the command asks for a decision that is refused for this reason
abbrev pub RefusesAsked : Database → Command → Refusal → Type 0
RefusesAsked database command why =
    (decision : Decision) × (AsksDecision database.model command decision × RefusesFor database decision why)

-- something is possible, and the command asks for no decision of the model
abbrev pub AsksInVain : Database → Command → Type 0
AsksInVain database command = ((state : State) × HasLeast database state) × AsksNothing database.model command

-- The decision that the command asks for is taken, or it is refused: where nothing is possible, where the model or the least
-- state hasn't what is named, and else for the first reason that speaks against it.
abbrev pub TakesAsked : Database → Command → Result Outcome RefusalReason → Database → Type 0
TakesAsked old command (Ok found) new =
    (decision : Decision) × (AsksDecision old.model command decision × Applies old decision (Ok found) new)
TakesAsked old command (Err reason.Inconsistent) new = HasCollapsed old × (new ≡ old)
TakesAsked old command (Err (reason.Decision why)) new =
    ((AsksInVain old command × (why ≡ refusals.Unknown)) ⊎ RefusesAsked old command why) × (new ≡ old)
TakesAsked old command (Err why) new = ⊥

-- the command asks for the decision on this to be taken out: on a constraint or a relation, that which these words post
abbrev pub AsksSubject : Model → Command → Subject → Type 0
AsksSubject model (Reset text) (subjects.Var name) = NamesVariable model text name
AsksSubject model (Reset text) (subjects.Token token) = NamesToken model text token
AsksSubject model (ResetOrder text after) (subjects.Order first second) =
    NamesToken model text first × NamesToken model after second
AsksSubject model (Withdraw kind arguments) (subjects.Constraint other given) =
    AsksDecision model (Post kind arguments) (decisions.Constrain other given)
AsksSubject model (Unrelate relation text after) (subjects.Relation other first second) =
    AsksDecision model (Relate relation text after) (decisions.Relate other first second)
AsksSubject model command subject = ⊥

-- no decision stands on what the command names
abbrev pub AsksForNone : Database → Command → Type 0
AsksForNone database command =
    (subject : Subject) → AsksSubject database.model command subject → HasDecisionOn database subject → ⊥

-- the decision is taken out, or there is none
abbrev pub ResetsAsked : Database → Command → Result Outcome RefusalReason → Database → Type 0
ResetsAsked old command (Ok found) new =
    (subject : Subject) × (AsksSubject old.model command subject × Resets old subject (Ok found) new)
ResetsAsked old command (Err reason.NoDecision) new = AsksForNone old command × (new ≡ old)
ResetsAsked old command (Err why) new = ⊥

-- the last step is taken back to the list before it, or there is none
abbrev pub UndoesLast : Database → Result Outcome RefusalReason → Database → Type 0
UndoesLast old (Ok found) new = HasFormer old.history × TakesBack old (Ok found) new
UndoesLast old (Err reason.Nothing) new = (old.history ≡ [] ∷ []) × (new ≡ old)
UndoesLast old (Err why) new = ⊥

-- ---- what is told

-- that nothing is possible, or what the least state tells
abbrev pub TellsState : (State → List ℕ → Type 0) → Database → List ℕ → Type 0
TellsState Tells database reply =
    (HasCollapsed database × (reply ≡ outcome_text outcome.Inconsistent))
    ⊎ ((state : State) × (HasLeast database state × Tells state reply))

-- why nothing is possible, where that is so
abbrev pub TellsCollapse : (List ℕ → Type 0) → Database → List ℕ → Type 0
TellsCollapse Tells database reply =
    (((state : State) × HasLeast database state) × (reply ≡ refusal reason.Consistent))
    ⊎ (HasCollapsed database × Tells reply)

-- the text names no variable of the state
abbrev pub NamesNone : Model → State → NameText → Type 0
NamesNone model state text =
    (name : VarName) (domain : Domain) → NamesVariable model text name → Gives state name domain → ⊥

-- the domain of the variable, or that there is no such variable
abbrev pub TellsDomain : Model → NameText → State → List ℕ → Type 0
TellsDomain model text state reply =
    ((name : VarName) × (domain : Domain) × (line : List ℕ)
    × (NamesVariable model text name × Gives state name domain × IsDomainLine model name domain line × (reply ≡ with_line_feed line)))
    ⊎ (NamesNone model state text × (reply ≡ refusal (reason.Decision refusals.Unknown)))

-- the tokens in order, each with what has become of it
abbrev pub TellsTokens : Model → List Decision → State → List ℕ → Type 0
TellsTokens model decisions state reply =
    (lines : List (List ℕ)) × (AllZip (IsTokenLine model state decisions) state.tokens lines
    × (reply ≡ counted_lines (codes "tokens") lines))

-- the decisions as the commands that make them
abbrev pub TellsDecisions : Model → List ℕ → List Decision → List ℕ → Type 0
TellsDecisions model word decisions reply =
    (lines : List (List ℕ)) × (AllZip (IsDecisionLine model) decisions lines × (reply ≡ counted_lines word lines))

-- the flaw that comes first, with the number of its choices where 512 tokens may be active; or that there is none
abbrev pub TellsFlaw : Model → List Decision → State → List ℕ → Type 0
TellsFlaw model decisions state reply =
    ((HasFlaw model decisions state → ⊥) × (reply ≡ with_line_feed (codes "flaw none")))
    ⊎ ((flaw : Flaw) × (choices : List Decision) × (line : List ℕ)
    × (IsFirstFlaw model decisions state flaw × AreChoices model decisions state 512 flaw choices
    × IsFlawLine model flaw (length choices) line × (reply ≡ with_line_feed line)))

-- the conflict of the decisions that stand
abbrev pub TellsConflict : Database → List ℕ → Type 0
TellsConflict database reply =
    (conflict : List Decision) × (IsConflict database.model (standing database.history) conflict
    × TellsDecisions database.model (codes "conflict") conflict reply)

-- the cycle of their time edges
abbrev pub TellsCycle : Database → List ℕ → Type 0
TellsCycle database reply =
    (edges cycle : List NamedEdge) × (lines : List (List ℕ)) × (AreStandingEdges database edges × IsTimeCycle edges cycle
    × AllZip (IsEdgeLine database.model) cycle lines × (reply ≡ counted_lines (codes "cycle") lines))

-- ---- searches

-- the search from the decisions that stand, under the bound and with so many visits
abbrev pub RepliesSearch : ℕ → ℕ → Database → List ℕ → Database → Type 0
RepliesSearch bound steps old reply new =
    (outcome : SearchOutcome) × (end : SearchEnd)
    × (Searches old.model bound steps (standing old.history) outcome × TellsEnd steps outcome old end new
    × TellsSearch end new reply)

-- the reply to `solve` where the history isn't full: that the decisions leave nothing, or how the search ended
abbrev pub RepliesSolve : ℕ → ℕ → Database → List ℕ → Database → Type 0
RepliesSolve steps tokens old reply new =
    (HasCollapsed old × (reply ≡ outcome_text outcome.Inconsistent) × (new ≡ old))
    ⊎ (((state : State) × HasLeast old state) × RepliesSearch tokens steps old reply new)

-- ---- commands

-- the reply to a command that asks for a decision
abbrev pub RepliesDecision : Database → Command → List ℕ → Database → Type 0
RepliesDecision old command reply new = UnlessFull (RepliesStep (TakesAsked old command)) old reply new

-- the reply to one that asks for a decision to be taken out
abbrev pub RepliesReset : Database → Command → List ℕ → Database → Type 0
RepliesReset old command reply new = UnlessFull (RepliesStep (ResetsAsked old command)) old reply new

-- what is told of a database, which stays
abbrev pub Keeping : (Database → List ℕ → Type 0) → Database → List ℕ → Database → Type 0
Keeping Tells old reply new = Tells old reply × (new ≡ old)

-- The reply to a command, and the database then.
abbrev pub RepliesTo : Database → Command → List ℕ → Database → Type 0
RepliesTo old Empty reply new = (reply ≡ []) × (new ≡ old)
RepliesTo old (Specify variable value) reply new = RepliesDecision old (Specify variable value) reply new
RepliesTo old (Activate token) reply new = RepliesDecision old (Activate token) reply new
RepliesTo old (Merge token target) reply new = RepliesDecision old (Merge token target) reply new
RepliesTo old (Reject token) reply new = RepliesDecision old (Reject token) reply new
RepliesTo old (Order first second) reply new = RepliesDecision old (Order first second) reply new
RepliesTo old (Post kind arguments) reply new = RepliesDecision old (Post kind arguments) reply new
RepliesTo old (Relate relation first second) reply new = RepliesDecision old (Relate relation first second) reply new
RepliesTo old (Reset subject) reply new = RepliesReset old (Reset subject) reply new
RepliesTo old (ResetOrder first second) reply new = RepliesReset old (ResetOrder first second) reply new
RepliesTo old (Withdraw kind arguments) reply new = RepliesReset old (Withdraw kind arguments) reply new
RepliesTo old (Unrelate relation first second) reply new = RepliesReset old (Unrelate relation first second) reply new
RepliesTo old commands.Undo reply new = RepliesStep (UndoesLast old) reply new
RepliesTo old (commands.Domain variable) reply new = Keeping (TellsState (TellsDomain old.model variable)) old reply new
RepliesTo old commands.Tokens reply new =
    Keeping (TellsState (TellsTokens old.model (standing old.history))) old reply new
RepliesTo old commands.Decisions reply new =
    TellsDecisions old.model (codes "decisions") (standing old.history) reply × (new ≡ old)
RepliesTo old commands.Flaws reply new = Keeping (TellsState (TellsFlaw old.model (standing old.history))) old reply new
RepliesTo old (commands.Solve steps tokens) reply new = UnlessFull (RepliesSolve steps tokens old) old reply new
RepliesTo old commands.Why reply new = Keeping (TellsCollapse (TellsConflict old)) old reply new
RepliesTo old commands.Cycle reply new = Keeping (TellsCollapse (TellsCycle old)) old reply new
RepliesTo old commands.Quit reply new = (reply ≡ []) × (new ≡ old)

-- there was no memory for a reply: nothing changed, or what is changed is so after a reply, which is lost
abbrev pub IsLost : (List ℕ → Database → Type 0) → Database → Database → Type 0
IsLost IsReplied old new = (new ≡ old) ⊎ ((reply : List ℕ) × IsReplied reply new)
