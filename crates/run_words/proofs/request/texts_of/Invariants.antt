use Rattle.std.specs.Prelude.{◌≡◌, map, take, All}
use Rattle.std.specs.Str.{IsUtf8}
use Rattle.run_words.proofs.request.texts_of.Given as goal

abbrev pub invariant-loop-word : goal.invariant-loop-word
invariant-loop-word l = (map (λ text. text.now) l.texts.items ≡ take l.word-index l.words) × All (λ text. IsUtf8 text.now) l.texts.items
