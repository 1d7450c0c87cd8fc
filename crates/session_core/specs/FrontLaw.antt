-- A line is answered as its front is: the law that the session asks for, with its proof.
use Rattle.std.specs.Prelude.{ℕ, List, take}
use Rattle.session_loop.specs.declared.reply.Answer.{Answer}
use Rattle.plan_db.specs.Database.{Database}
use Rattle.script_lang.proofs.Commands.{front_decides}
use Rattle.session_core.specs.LineReplies.{AnswersLine}

-- what the front of a line is answered is what the line is answered
pub front_answers : (old : Database) (line : List ℕ) (answer : Answer) (new : Database)
    → AnswersLine old (take 4097 line) answer new → AnswersLine old line answer new
front_answers old line answer new (sound, (read, (reads, answers))) = (sound, (read, (front_decides line read reads, answers)))
