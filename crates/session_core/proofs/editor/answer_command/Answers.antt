use Rattle.std.proofs.Common.{Ok, subst, sym}
use Rattle.std.specs.Prelude.{IfOk, OnErr}
use Rattle.script_lang.specs.declared.command.Command.{Command}
use Rattle.script_lang.specs.Line.{IsCommand}
use Rattle.session_core.specs.LineReplies.{AnswersRead}
use Rattle.session_core.specs.Replies.{IsLost, RepliesTo}
use Rattle.session_core.proofs.editor.answer_command.Goals as goal

pub answer_asked-answer-requires-clause-words : goal.answer_asked-answer-requires-clause-words
answer_asked-answer-requires-clause-words c =
    (c.requires.words.0, subst (λ (command : Command). IsCommand c.requires.words.0 command) (sym c.sort_command-asked.ensures) c.requires.words.1)

pub returns-clause-answer : goal.returns-clause-answer
returns-clause-answer c =
    let old = c.args.db.now.database in
    let new = c.answer_asked-answer.new.db.database in
    subst (λ (command : Command). IfOk c.answer_asked-answer.result (λ answer. AnswersRead old (Ok command) answer new)) c.sort_command-asked.ensures c.answer_asked-answer.ensures.answer

pub returns-clause-memory : goal.returns-clause-memory
returns-clause-memory c =
    let old = c.args.db.now.database in
    let new = c.answer_asked-answer.new.db.database in
    subst (λ (command : Command). OnErr c.answer_asked-answer.result (IsLost (RepliesTo old command) old new)) c.sort_command-asked.ensures c.answer_asked-answer.ensures.memory
