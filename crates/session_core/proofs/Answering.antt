-- Each line of a sound database has one answer, and leaves one database.
use Rattle.std.proofs.Common.{◌≡◌, ℕ, ◌≤◌, List, [], ◌∷◌, Result, Ok, Err, sym, ap, ◌∙◌, subst, inl, inr}
use Rattle.std.specs.Prelude.{codes, ⊤}
use Rattle.session_loop.specs.declared.reply.Answer.{Answer}
use Rattle.session_loop.specs.Laws.{HasOneReply}
use Rattle.model_core.specs.declared.model.Model.{Model}
use Rattle.model_core.specs.History.{History, standing}
use Rattle.model_core.specs.Lawful.{IsLawful}
use Rattle.model_core.specs.State.{State}
use Rattle.plan_db.specs.Database.{Database, HasLeast}
use Rattle.plan_db.specs.declared.fault.Outcome.{Outcome}
use Rattle.plan_defs.specs.History.{IsHistory}
use Rattle.plan_defs.specs.Settling.{IsSettled}
use Rattle.eu_name.proofs.Ordered.{contains_head}
use Rattle.plan_defs.proofs.Settling.{history_settled, least_not_collapsed}
use Rattle.law_states.specs.Soundness.{StatesHaveOnePlan}
use Rattle.script_lang.specs.declared.command.Command.{Command}
use Rattle.script_lang.specs.declared.command.Command.TheVariants.{Empty, Specify, Activate, Merge, Reject, Order, Post, Relate}
use Rattle.script_lang.specs.declared.command.Command.TheVariants.{Reset, ResetOrder, Withdraw, Unrelate}
use Rattle.script_lang.specs.declared.command.Command.TheVariants as commands
use Rattle.script_lang.specs.declared.command.LineFault.{LineFault}
use Rattle.script_lang.specs.declared.command.LineFault.TheVariants as line
use Rattle.script_lang.specs.Line.{IsCommand, ReadsLine}
use Rattle.session_core.specs.declared.reason.RefusalReason.{RefusalReason}
use Rattle.session_core.specs.Reasons.{step_text}
use Rattle.session_core.specs.Replies.{UnlessFull, RepliesStep, TakesAsked, ResetsAsked, UndoesLast, TellsState, TellsCollapse, TellsDomain, TellsTokens, TellsFlaw, TellsConflict, TellsCycle, RepliesSolve, Keeping, RepliesDecision, RepliesReset, RepliesTo}
use Rattle.session_core.specs.LineReplies.{AnswersRead, AnswersLine}
use Rattle.session_core.proofs.OneReset.{resetting_one, undoing_one}
use Rattle.session_core.proofs.OneSearch.{search_one}
use Rattle.session_core.proofs.Taking.{taking_one}
use Rattle.session_core.proofs.OneTelling.{state_told_one, collapse_told_one, least_order, domain_told_one, decisions_told_one, tokens_told_one, flaw_told_one, conflict_told_one, cycle_told_one}

-- what a history has at its end is settled
pub standing_settled : (model : Model) (history : History) → IsHistory model history → IsSettled model (standing history)
standing_settled model [] is = absurd is
standing_settled model (decisions ∷ former) is = history_settled model (decisions ∷ former) decisions is (contains_head decisions former)

-- one reply and one database at most
abbrev AnswersOnce : (List ℕ → Database → Type 0) → Type 0
AnswersOnce Replies = (one other : List ℕ) (new next : Database) → Replies one new → Replies other next → (one ≡ other) × (new ≡ next)

step_once : (Steps : Result Outcome RefusalReason → Database → Type 0)
    → ((one other : Result Outcome RefusalReason) (new next : Database) → Steps one new → Steps other next → (one ≡ other) × (new ≡ next)) → AnswersOnce (RepliesStep Steps)
step_once Steps once one other new next (step, (is, shows)) (step', (is', shows')) =
    let both = once step step' new next is is' in
    (shows ∙ (ap step_text both.0 ∙ sym shows'), both.1)

unless_full_once : (old : Database) (Replies : List ℕ → Database → Type 0) → AnswersOnce Replies → AnswersOnce (UnlessFull Replies old)
unless_full_once old Replies once one other new next (inl p) (inl q) = (p.1 ∙ sym q.1, p.2 ∙ sym q.2)
unless_full_once old Replies once one other new next (inl p) (inr q) = absurd (q.0 p.0)
unless_full_once old Replies once one other new next (inr p) (inl q) = absurd (p.0 q.0)
unless_full_once old Replies once one other new next (inr p) (inr q) = once one other new next p.1 q.1

keeping_once : (old : Database) (Tells : Database → List ℕ → Type 0) → ((one other : List ℕ) → Tells old one → Tells old other → one ≡ other) → AnswersOnce (Keeping Tells old)
keeping_once old Tells once one other new next p q = (once one other p.0 q.0, p.1 ∙ sym q.1)

-- a search is asked for under a bound of 512 at most
abbrev IsBounded : Command → Type 0
IsBounded (commands.Solve steps tokens) = tokens ≤ 512
IsBounded command = ⊤

bounded : (words : List (List ℕ)) (command : Command) → IsCommand words command → IsBounded command
bounded words (commands.Solve steps tokens) is = is.3
bounded words command is = tt

module _ (one_plan : StatesHaveOnePlan) (old : Database) (lawful : IsLawful old.model) (settled : IsSettled old.model (standing old.history)) where
  solving_once : (steps tokens : ℕ) → tokens ≤ 512 → AnswersOnce (RepliesSolve steps tokens old)
  solving_once steps tokens few one other new next (inl p) (inl q) = (p.1 ∙ sym q.1, p.2 ∙ sym q.2)
  solving_once steps tokens few one other new next (inl p) (inr q) = absurd (least_not_collapsed old.model (standing old.history) q.0.0 q.0.1 p.0)
  solving_once steps tokens few one other new next (inr p) (inl q) = absurd (least_not_collapsed old.model (standing old.history) p.0.0 p.0.1 q.0)
  solving_once steps tokens few one other new next (inr p) (inr q) = search_one one_plan old lawful settled tokens steps few one other new next p.1 q.1

  taking_once : (command : Command) → AnswersOnce (RepliesDecision old command)
  taking_once command = unless_full_once old (RepliesStep (TakesAsked old command)) (step_once (TakesAsked old command) (taking_one old command lawful))

  resetting_once : (command : Command) → AnswersOnce (RepliesReset old command)
  resetting_once command = unless_full_once old (RepliesStep (ResetsAsked old command)) (step_once (ResetsAsked old command) (resetting_one old lawful settled command))

  state_once : (Tells : State → List ℕ → Type 0) → ((state : State) (one other : List ℕ) → HasLeast old state → Tells state one → Tells state other → one ≡ other)
      → AnswersOnce (Keeping (TellsState Tells) old)
  state_once Tells once = keeping_once old (TellsState Tells) (state_told_one old Tells once)

  -- a command has one reply
  reply_once : (command : Command) → IsBounded command → AnswersOnce (RepliesTo old command)
  reply_once Empty bound = λ one other new next p q. (p.0 ∙ sym q.0, p.1 ∙ sym q.1)
  reply_once (Specify variable value) bound = taking_once (Specify variable value)
  reply_once (Activate token) bound = taking_once (Activate token)
  reply_once (Merge token target) bound = taking_once (Merge token target)
  reply_once (Reject token) bound = taking_once (Reject token)
  reply_once (Order first second) bound = taking_once (Order first second)
  reply_once (Post kind arguments) bound = taking_once (Post kind arguments)
  reply_once (Relate relation first second) bound = taking_once (Relate relation first second)
  reply_once (Reset subject) bound = resetting_once (Reset subject)
  reply_once (ResetOrder first second) bound = resetting_once (ResetOrder first second)
  reply_once (Withdraw kind arguments) bound = resetting_once (Withdraw kind arguments)
  reply_once (Unrelate relation first second) bound = resetting_once (Unrelate relation first second)
  reply_once commands.Undo bound = step_once (UndoesLast old) (undoing_one old)
  reply_once (commands.Domain variable) bound =
      state_once (TellsDomain old.model variable) (λ state one other least p q. domain_told_one old.model lawful variable state one other (least_order old state least) p q)
  reply_once commands.Tokens bound =
      state_once (TellsTokens old.model (standing old.history)) (λ state one other least p q. tokens_told_one old.model (standing old.history) settled state (least_order old state least) one other p q)
  reply_once commands.Decisions bound = λ one other new next p q. (decisions_told_one old.model (codes "decisions") (standing old.history) one other p.0 q.0, p.1 ∙ sym q.1)
  reply_once commands.Flaws bound =
      state_once (TellsFlaw old.model (standing old.history)) (λ state one other least p q. flaw_told_one old.model (standing old.history) settled state (least_order old state least) one other p q)
  reply_once (commands.Solve steps tokens) bound = unless_full_once old (RepliesSolve steps tokens old) (solving_once steps tokens bound)
  reply_once commands.Why bound = keeping_once old (TellsCollapse (TellsConflict old)) (collapse_told_one old (TellsConflict old) (conflict_told_one old))
  reply_once commands.Cycle bound = keeping_once old (TellsCollapse (TellsCycle old)) (collapse_told_one old (TellsCycle old) (cycle_told_one old settled))
  reply_once commands.Quit bound = λ one other new next p q. (p.0 ∙ sym q.0, p.1 ∙ sym q.1)

  answer_same : (one other : Answer) → one.reply ≡ other.reply → one.goes_on ≡ other.goes_on → one ≡ other
  answer_same one other reply goes_on = λ i. record { reply = reply i; goes_on = goes_on i }

  -- so has a line that is read
  read_once : (text : List ℕ) (read : Result Command LineFault) → ReadsLine text read → (one other : Answer) (new next : Database)
      → AnswersRead old read one new → AnswersRead old read other next → (one ≡ other) × (new ≡ next)
  read_once text (Ok command) reads one other new next p q =
      let both = reply_once command (bounded _ command reads.1) one.reply other.reply new next p.0 q.0 in
      (answer_same one other both.0 (p.1 ∙ sym q.1), both.1)
  read_once text (Err line.TooLong) reads one other new next p q = (answer_same one other (p.0 ∙ sym q.0) (p.1 ∙ sym q.1), p.2 ∙ sym q.2)
  read_once text (Err line.Syntax) reads one other new next p q = (answer_same one other (p.0 ∙ sym q.0) (p.1 ∙ sym q.1), p.2 ∙ sym q.2)
  read_once text (Err line.Memory) reads one other new next p q = absurd p

-- what is answered isn't that memory ran out
pub not_memory : (old : Database) (read : Result Command LineFault) (answer : Answer) (new : Database) → AnswersRead old read answer new → read ≡ Err line.Memory → ⊥
not_memory old read answer new answers is = subst (λ (r : Result Command LineFault). AnswersRead old r answer new) is answers

-- a line is read in one way, where memory suffices
abbrev pub ReadOnce : Type 0
ReadOnce =
    (text : List ℕ) (one other : Result Command LineFault) → ReadsLine text one → ReadsLine text other
    → (one ≡ Err line.Memory → ⊥) → (other ≡ Err line.Memory → ⊥) → one ≡ other

pub line_once : ReadOnce → StatesHaveOnePlan → HasOneReply AnswersLine
line_once read one_plan old text answer other new next (sound, (one, (reads, answers))) (sound', (two, (reads', answers'))) =
    let same = read text two one reads' reads (not_memory old two other next answers') (not_memory old one answer new answers) in
    let settled = standing_settled old.model old.history sound.history in
    read_once one_plan old sound.lawful settled text one reads other answer next new (subst (λ (r : Result Command LineFault). AnswersRead old r other next) same answers') answers
