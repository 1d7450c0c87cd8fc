use Rattle.script_lang.proofs.Parts.{runs_are_words, blanks_separate}
use Rattle.script_lang.proofs.word_laws.words_are_runs.Goals as goal

pub returns-clause-run : goal.returns-clause-run
returns-clause-run c = runs_are_words

pub returns-clause-blank : goal.returns-clause-blank
returns-clause-blank c = blanks_separate
