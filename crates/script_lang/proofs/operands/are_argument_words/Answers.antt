use Rattle.script_lang.specs.Words.{words_of}
use Rattle.script_lang.proofs.Listed.{some_other, still_all, all_there}
use Rattle.script_lang.proofs.operands.are_argument_words.Goals as goal

pub loop-word-init : goal.loop-word-init
loop-word-init c = (λ all. all, λ all. all)

pub returns-then-not-is_argument_word : goal.returns-then-not-is_argument_word
returns-then-not-is_argument_word c =
    some_other (words_of c.args.words.now) (words_of c.loop-word.rest.now) (words_of c.in-Some.behind.now) c.in-Some.word.now c.is_argument_word.result c.in-Some.ensures.some c.is_argument_word.ensures
    c.if-not-is_argument_word.true c.loop-word.invariant

pub loop-word-preserved : goal.loop-word-preserved
loop-word-preserved c =
    still_all (words_of c.args.words.now) (words_of c.loop-word.rest.now) (words_of c.in-Some.behind.now) c.in-Some.word.now c.is_argument_word.result c.in-Some.ensures.some c.is_argument_word.ensures
    c.if-not-is_argument_word.false c.loop-word.invariant

pub returns : goal.returns
returns c = all_there (words_of c.args.words.now) (words_of c.loop-word.rest.now) c.in_default.ensures.none c.loop-word.invariant
