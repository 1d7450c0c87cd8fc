-- What the lines of a script are answered, and the database afterwards.
use Rattle.std.specs.Prelude.{◌≡◌, ℕ, Bool, true, false, List, Result, Ok, Err}
use Rattle.session_loop.specs.declared.reply.Answer.{Answer}
use Rattle.plan_db.specs.Database.{Database, IsSound}
use Rattle.script_lang.specs.declared.command.Command.{Command}
use Rattle.script_lang.specs.declared.command.Command.TheVariants as commands
use Rattle.script_lang.specs.declared.command.LineFault.{LineFault}
use Rattle.script_lang.specs.declared.command.LineFault.TheVariants as line
use Rattle.script_lang.specs.Line.{ReadsLine}
use Rattle.session_core.specs.declared.reason.RefusalReason.TheVariants as reason
use Rattle.session_core.specs.Reasons.{refusal}
use Rattle.session_core.specs.Replies.{RepliesTo}

-- the session goes on behind every command but `quit`
abbrev pub goes_on_behind : Command → Bool
goes_on_behind commands.Quit = false
goes_on_behind command = true

-- the answer to a line that is read so
abbrev pub AnswersRead : Database → Result Command LineFault → Answer → Database → Type 0
AnswersRead old (Ok command) answer new =
    RepliesTo old command answer.reply new × (answer.goes_on ≡ goes_on_behind command)
AnswersRead old (Err line.TooLong) answer new = (answer.reply ≡ refusal reason.Long) × (answer.goes_on ≡ true) × (new ≡ old)
AnswersRead old (Err line.Syntax) answer new = (answer.reply ≡ refusal reason.Syntax) × (answer.goes_on ≡ true) × (new ≡ old)
AnswersRead old (Err line.Memory) answer new = ⊥

-- The answer to a line of a database that is sound, and the database then.
abbrev pub AnswersLine : Database → List ℕ → Answer → Database → Type 0
AnswersLine old text answer new =
    IsSound old × ((read : Result Command LineFault) × (ReadsLine text read × AnswersRead old read answer new))
