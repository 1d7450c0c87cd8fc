use Rattle.std.proofs.Common.{sym, ◌∙◌}
use Rattle.script_lang.specs.Words.{words_of}
use Rattle.script_lang.proofs.Commands.{read_first, read_none}
use Rattle.script_lang.proofs.line.read_words.Goals as goal

pub returns-in-Some-verb_of : goal.returns-in-Some-verb_of
returns-in-Some-verb_of c =
    read_first (words_of c.args.line.now) c.in-Some.first.now (words_of c.in-Some.rest.now) c.in-Some-verb_of.verb c.read_command.result
    c.in-Some.ensures.some (sym c.verb_of.ensures ∙ c.in-Some-verb_of.is) c.read_command.ensures

pub returns-in-None : goal.returns-in-None
returns-in-None c =
    read_none (words_of c.args.line.now) c.in-Some.first.now (words_of c.in-Some.rest.now) c.in-Some.ensures.some (sym c.verb_of.ensures ∙ c.in-None.is)
