use Rattle.std.proofs.Common.{ℕ, List, ◌++◌, sym, ap}
use Rattle.script_lang.specs.Line.{IsArgumentWord}
use Rattle.script_lang.specs.Words.{words_of}
use Rattle.script_lang.proofs.Low.{argument_is_low}
use Rattle.script_lang.proofs.Listed.{all_first, kept_next, kept_all}
use Rattle.script_lang.proofs.operands.texts_of.Goals as goal

pub loop-word-init : goal.loop-word-init
loop-word-init c = record { parts = ap (λ (texts : List (List ℕ)). texts ++ words_of c.args.words.now) (sym c.new-texts.ensures); fine = c.requires }

pub text_of-requires : goal.text_of-requires
text_of-requires c =
    argument_is_low c.in-Some.word.now
    (all_first IsArgumentWord (words_of c.loop-word.rest.now) (words_of c.in-Some.behind.now) c.in-Some.word.now c.in-Some.ensures.some c.loop-word.invariant.fine)

pub loop-word-preserved : goal.loop-word-preserved
loop-word-preserved c =
    kept_next (words_of c.args.words.now) c.loop-word.texts c.push.new.self (words_of c.loop-word.rest.now) (words_of c.in-Some.behind.now) c.in-Some.word.now c.in_ok-text_of.field-0
    c.in-Some.ensures.some c.in_ok-text_of.ensures c.in_ok-push.ensures.ok c.loop-word.invariant.parts c.loop-word.invariant.fine

pub returns : goal.returns
returns c = kept_all (words_of c.args.words.now) c.loop-word.texts (words_of c.loop-word.rest.now) c.in_default.ensures.none c.loop-word.invariant.parts
