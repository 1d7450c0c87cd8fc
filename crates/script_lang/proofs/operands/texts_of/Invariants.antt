use Rattle.std.proofs.Common.{length}
use Rattle.script_lang.specs.Words.{words_of}
use Rattle.script_lang.proofs.Listed.{IsKept}
use Rattle.script_lang.proofs.operands.texts_of.Given as goal

abbrev pub invariant-loop-word : goal.invariant-loop-word
invariant-loop-word l = IsKept (words_of l.words) l.texts (words_of l.rest)

abbrev pub decreases-loop-word : goal.decreases-loop-word
decreases-loop-word l = length (words_of l.rest)
