-- From what a command is answered to what its line is answered.
use Rattle.std.proofs.Common.{◌≡◌, ℕ, ◌≤◌, List, Result, Ok, Err, inl, inr, refl}
use Rattle.std.specs.Prelude.{true, IfOk, OnErr}
use Rattle.std.specs.declared.alloc.AllocError.{AllocError}
use Rattle.session_loop.specs.declared.reply.Answer.{Answer}
use Rattle.session_loop.specs.Answering.{LeavesUnanswered}
use Rattle.plan_db.specs.Database.{Database, IsSound}
use Rattle.script_lang.specs.declared.command.Command.{Command}
use Rattle.script_lang.specs.declared.command.Command.TheVariants as commands
use Rattle.script_lang.specs.declared.command.LineFault.TheVariants as line
use Rattle.script_lang.specs.Line.{IsCommand, ReadsLine}
use Rattle.session_core.specs.declared.reason.RefusalReason.TheVariants as reason
use Rattle.session_core.specs.Reasons.{refusal}
use Rattle.session_core.specs.Replies.{RepliesTo, IsLost}
use Rattle.session_core.specs.LineReplies.{AnswersRead, AnswersLine, goes_on_behind}

module _ (old new : Database) (sound : IsSound old) (text : List ℕ) where
  module _ (command : Command) (reads : ReadsLine text (Ok command)) where
    pub line_answered : (result : Result Answer AllocError)
        → IfOk result (λ answer. AnswersRead old (Ok command) answer new) → IfOk result (λ answer. AnswersLine old text answer new)
    line_answered (Ok answer) read = (sound, (Ok command, (reads, read)))
    line_answered (Err none) read = tt

    -- a reply that is lost is that of an answer
    lost : IsLost (RepliesTo old command) old new → LeavesUnanswered AnswersLine old text new
    lost (inl same) = inl same
    lost (inr (reply, replied)) =
        inr (record { reply = reply; goes_on = goes_on_behind command }, (sound, (Ok command, (reads, (replied, refl)))))

    pub line_lost : (result : Result Answer AllocError)
        → OnErr result (IsLost (RepliesTo old command) old new) → OnErr result (LeavesUnanswered AnswersLine old text new)
    line_lost (Ok answer) is = tt
    line_lost (Err none) is = lost is

-- a line that is refused changes nothing
module _ (old : Database) (sound : IsSound old) (text : List ℕ) (result : Result Answer AllocError) where
  pub long_answered : ReadsLine text (Err line.TooLong) → IfOk result (λ answer. (answer.reply ≡ refusal reason.Long) × (answer.goes_on ≡ true))
      → IfOk result (λ answer. AnswersLine old text answer old)
  long_answered reads says = told result says
    where
      told : (r : Result Answer AllocError) → IfOk r (λ answer. (answer.reply ≡ refusal reason.Long) × (answer.goes_on ≡ true))
          → IfOk r (λ answer. AnswersLine old text answer old)
      told (Ok answer) s = (sound, (Err line.TooLong, (reads, (s.0, s.1, refl))))
      told (Err none) s = tt

  pub wrong_answered : ReadsLine text (Err line.Syntax) → IfOk result (λ answer. (answer.reply ≡ refusal reason.Syntax) × (answer.goes_on ≡ true))
      → IfOk result (λ answer. AnswersLine old text answer old)
  wrong_answered reads says = told result says
    where
      told : (r : Result Answer AllocError) → IfOk r (λ answer. (answer.reply ≡ refusal reason.Syntax) × (answer.goes_on ≡ true))
          → IfOk r (λ answer. AnswersLine old text answer old)
      told (Ok answer) s = (sound, (Err line.Syntax, (reads, (s.0, s.1, refl))))
      told (Err none) s = tt

-- without an answer the line changed nothing
pub unchanged : (old : Database) (text : List ℕ) (result : Result Answer AllocError) → OnErr result (LeavesUnanswered AnswersLine old text old)
unchanged old text (Ok answer) = tt
unchanged old text (Err none) = inl refl

-- ---- what a command that was read is like

-- a command for a search has no more tokens than may be active
pub few_tokens : (words : List (List ℕ)) (steps tokens : ℕ) → IsCommand words (commands.Solve steps tokens) → tokens ≤ 512
few_tokens words steps tokens is = is.3
