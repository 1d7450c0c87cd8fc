use Rattle.std.proofs.Common.{◌↔◌, All, length}
use Rattle.script_lang.specs.Line.{IsArgumentWord}
use Rattle.script_lang.specs.Words.{words_of}
use Rattle.script_lang.proofs.operands.are_argument_words.Given as goal

-- whatever the rest is, all are
abbrev pub invariant-loop-word : goal.invariant-loop-word
invariant-loop-word l = All IsArgumentWord (words_of l.words) ↔ All IsArgumentWord (words_of l.rest)

abbrev pub decreases-loop-word : goal.decreases-loop-word
decreases-loop-word l = length (words_of l.rest)
