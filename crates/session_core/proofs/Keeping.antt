-- The model of a database stays, whatever a command is answered.
use Rattle.std.proofs.Common.{◌≡◌, ℕ, List, Result, Ok, Err, inl, inr, ap}
use Rattle.std.specs.declared.alloc.AllocError.{AllocError}
use Rattle.plan_db.specs.Database.{Database}
use Rattle.plan_db.specs.declared.fault.Outcome.{Outcome}
use Rattle.law_search.specs.Search.{SearchOutcome}
use Rattle.script_lang.specs.declared.command.Command.{Command}
use Rattle.script_lang.specs.declared.command.Command.TheVariants.{Empty, Specify, Activate, Merge, Reject, Order, Post, Relate}
use Rattle.script_lang.specs.declared.command.Command.TheVariants.{Reset, ResetOrder, Withdraw, Unrelate}
use Rattle.script_lang.specs.declared.command.Command.TheVariants as commands
use Rattle.flaw_core.specs.declared.ending.SearchEnd.{SearchEnd}
use Rattle.flaw_core.specs.declared.ending.SearchEnd.TheVariants.{Found, Exhausted, Budget}
use Rattle.solver_core.specs.Solving.{TellsEnd}
use Rattle.session_core.specs.declared.reason.RefusalReason.{RefusalReason}
use Rattle.session_core.specs.declared.reason.RefusalReason.TheVariants as reason
use Rattle.session_core.specs.Replies.{UnlessFull, RepliesStep, TakesAsked, ResetsAsked, UndoesLast, RepliesDecision, RepliesReset, RepliesTo}
use Rattle.session_core.specs.Steps.{AnswersCommand}

module _ (old new : Database) where
  same_model : new ≡ old → new.model ≡ old.model
  same_model same = ap (λ (database : Database). database.model) same

  takes_keep : (command : Command) (step : Result Outcome RefusalReason) → TakesAsked old command step new → new.model ≡ old.model
  takes_keep command (Ok found) takes = ap (λ (database : Database). database.model) takes.1.1.1
  takes_keep command (Err reason.Inconsistent) takes = same_model takes.1
  takes_keep command (Err (reason.Decision against)) takes = same_model takes.1
  takes_keep command (Err why) takes = absurd takes

  resets_keep : (command : Command) (step : Result Outcome RefusalReason) → ResetsAsked old command step new → new.model ≡ old.model
  resets_keep command (Ok found) resets = resets.1.1.0
  resets_keep command (Err reason.NoDecision) resets = same_model resets.1
  resets_keep command (Err why) resets = absurd resets

  undoes_keep : (step : Result Outcome RefusalReason) → UndoesLast old step new → new.model ≡ old.model
  undoes_keep (Ok found) undoes = undoes.1.0
  undoes_keep (Err reason.Nothing) undoes = same_model undoes.1
  undoes_keep (Err why) undoes = absurd undoes

  ends_keep : (steps : ℕ) (outcome : SearchOutcome) (end : SearchEnd) → TellsEnd steps outcome old end new → new.model ≡ old.model
  ends_keep steps outcome (Found visits) tells = tells.2
  ends_keep steps outcome (Exhausted visits left_out) tells = same_model tells.3
  ends_keep steps outcome (Budget visits) tells = same_model tells.3

  unless_full_keeps : (IsReplied : List ℕ → Database → Type 0) (reply : List ℕ) → (IsReplied reply new → new.model ≡ old.model)
      → UnlessFull IsReplied old reply new → new.model ≡ old.model
  unless_full_keeps IsReplied reply keeps (inl full) = same_model full.2
  unless_full_keeps IsReplied reply keeps (inr replied) = keeps replied.1

  taking : (command : Command) (reply : List ℕ) → RepliesDecision old command reply new → new.model ≡ old.model
  taking command reply replied = unless_full_keeps (RepliesStep (TakesAsked old command)) reply (λ r. takes_keep command r.0 r.1.0) replied

  resetting : (command : Command) (reply : List ℕ) → RepliesReset old command reply new → new.model ≡ old.model
  resetting command reply replied = unless_full_keeps (RepliesStep (ResetsAsked old command)) reply (λ r. resets_keep command r.0 r.1.0) replied

  searching : (steps tokens : ℕ) (reply : List ℕ) → RepliesTo old (commands.Solve steps tokens) reply new → new.model ≡ old.model
  searching steps tokens reply (inl full) = same_model full.2
  searching steps tokens reply (inr (free, inl collapsed)) = same_model collapsed.2
  searching steps tokens reply (inr (free, inr (some, search))) = ends_keep steps search.0 search.1 search.2.1

  replies_keep : (command : Command) (reply : List ℕ) → RepliesTo old command reply new → new.model ≡ old.model
  replies_keep Empty reply replied = same_model replied.1
  replies_keep (Specify variable value) reply replied = taking (Specify variable value) reply replied
  replies_keep (Activate token) reply replied = taking (Activate token) reply replied
  replies_keep (Merge token target) reply replied = taking (Merge token target) reply replied
  replies_keep (Reject token) reply replied = taking (Reject token) reply replied
  replies_keep (Order first second) reply replied = taking (Order first second) reply replied
  replies_keep (Post kind arguments) reply replied = taking (Post kind arguments) reply replied
  replies_keep (Relate relation first second) reply replied = taking (Relate relation first second) reply replied
  replies_keep (Reset subject) reply replied = resetting (Reset subject) reply replied
  replies_keep (ResetOrder first second) reply replied = resetting (ResetOrder first second) reply replied
  replies_keep (Withdraw kind arguments) reply replied = resetting (Withdraw kind arguments) reply replied
  replies_keep (Unrelate relation first second) reply replied = resetting (Unrelate relation first second) reply replied
  replies_keep commands.Undo reply replied = undoes_keep replied.0 replied.1.0
  replies_keep (commands.Domain variable) reply replied = same_model replied.1
  replies_keep commands.Tokens reply replied = same_model replied.1
  replies_keep commands.Decisions reply replied = same_model replied.1
  replies_keep commands.Flaws reply replied = same_model replied.1
  replies_keep (commands.Solve steps tokens) reply replied = searching steps tokens reply replied
  replies_keep commands.Why reply replied = same_model replied.1
  replies_keep commands.Cycle reply replied = same_model replied.1
  replies_keep commands.Quit reply replied = same_model replied.1

  pub model_stays : (command : Command) (result : Result (List ℕ) AllocError) → AnswersCommand old command result new → new.model ≡ old.model
  model_stays command (Ok reply) replied = replies_keep command reply replied
  model_stays command (Err none) (inl same) = same_model same
  model_stays command (Err none) (inr (reply, replied)) = replies_keep command reply replied
