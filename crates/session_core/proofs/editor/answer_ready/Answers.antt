use Rattle.std.proofs.Common.{inl, refl}
use Rattle.script_lang.specs.Words.{words_of}
use Rattle.session_core.proofs.LineAnswers.{line_answered, line_lost, long_answered, wrong_answered, unchanged}
use Rattle.session_core.proofs.editor.answer_ready.Goals as goal

pub answer_command-requires-clause-words : goal.answer_command-requires-clause-words
answer_command-requires-clause-words c = (words_of c.args.line.now, c.in-Ok.ensures.1)

pub returns-in-Ok : goal.returns-in-Ok
returns-in-Ok c =
    let old = c.args.db.now.database in
    let new = c.answer_command.new.db.database in
    record {
      answer = line_answered old new c.requires.sound c.args.line.now c.in-Ok.command c.in-Ok.ensures c.answer_command.result c.answer_command.ensures.answer;
      memory = line_lost old new c.requires.sound c.args.line.now c.in-Ok.command c.in-Ok.ensures c.answer_command.result c.answer_command.ensures.memory;
      model = c.answer_command.ensures.model;
    }

pub returns-in-Err-TooLong : goal.returns-in-Err-TooLong
returns-in-Err-TooLong c =
    let old = c.args.db.now.database in
    record {
      answer = long_answered old c.requires.sound c.args.line.now c.refuse_line.result (rw c.in-Err-TooLong.field-0-is at c.in-Err-TooLong.ensures) c.refuse_line.ensures;
      memory = unchanged old c.args.line.now c.refuse_line.result;
      model = refl;
    }

pub returns-in-Err-Syntax : goal.returns-in-Err-Syntax
returns-in-Err-Syntax c =
    let old = c.args.db.now.database in
    record {
      answer = wrong_answered old c.requires.sound c.args.line.now c.refuse_line-in-Err-Syntax.result (rw c.in-Err-Syntax.field-0-is at c.in-Err-Syntax.ensures) c.refuse_line-in-Err-Syntax.ensures;
      memory = unchanged old c.args.line.now c.refuse_line-in-Err-Syntax.result;
      model = refl;
    }

pub returns-in-Err-Memory : goal.returns-in-Err-Memory
returns-in-Err-Memory c = record { answer = tt; memory = inl refl; model = refl }
