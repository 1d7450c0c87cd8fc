-- Words with a space behind each.
use Rattle.std.proofs.Common.{◌≡◌, ◌≢◌, ℕ, suc, refl, sym, ap, ◌∙◌, List, [], ◌∷◌, ◌++◌, ◌-◌, length, take, append_assoc, length-append, arith}
use Rattle.std.specs.Prelude.{codes}
use Rattle.std.specs.List.{flat_map, join_by}
use Rattle.std.proofs.lemmas.List.{append-nil}
use Rattle.std.proofs.Math.Seq.{take-append_seam}
use Rattle.nddl_print.specs.Words.{Word, text_of, line_of, spaced}
use Rattle.nddl_print.specs.Canonical.{◌⌢◌}

pub spaced_none : spaced [] ≡ []
unfolding spaced
spaced_none = refl

pub spaced_more : (word : Word) (words : List Word) → spaced (word ∷ words) ≡ (text_of word ++ codes " ") ++ spaced words
unfolding spaced
spaced_more word words = refl

pub spaced_one : (word : Word) → spaced (word ∷ []) ≡ text_of word ++ codes " "
spaced_one word = simp (spaced_more, spaced_none, append-nil) refl

spaced-append : (words more : List Word) → spaced (words ++ more) ≡ spaced words ++ spaced more
spaced-append [] more = rw spaced_none refl
spaced-append (word ∷ words) more =
    spaced_more word (words ++ more) ∙ (ap (λ rest. (text_of word ++ codes " ") ++ rest) (spaced-append words more)
    ∙ (sym (append_assoc (text_of word ++ codes " ") (spaced words) (spaced more)) ∙ ap (λ front. front ++ spaced more) (sym (spaced_more word words))))

pub spaced_then : (words more : List Word) → spaced (words ⌢ more) ≡ spaced words ++ spaced more
unfolding ◌⌢◌
spaced_then words more = spaced-append words more

-- spaces before the words and one behind them, or one before them and spaces behind
moved : (words : List Word) → flat_map (λ word. codes " " ++ text_of word) words ++ codes " " ≡ codes " " ++ flat_map (λ word. text_of word ++ codes " ") words
moved [] = refl
moved (word ∷ words) =
    append_assoc (codes " " ++ text_of word) (flat_map (λ word. codes " " ++ text_of word) words) (codes " ")
    ∙ (ap (λ rest. (codes " " ++ text_of word) ++ rest) (moved words)
    ∙ ap (λ rest. codes " " ++ rest) (sym (append_assoc (text_of word) (codes " ") (flat_map (λ word. text_of word ++ codes " ") words))))

-- a space in place of the line feed
joined : (word : Word) (words : List Word) → spaced (word ∷ words) ≡ join_by text_of (codes " ") (word ∷ words) ++ codes " "
unfolding spaced
joined word words =
    append_assoc (text_of word) (codes " ") (flat_map (λ word. text_of word ++ codes " ") words)
    ∙ (ap (λ rest. text_of word ++ rest) (sym (moved words)) ∙ sym (append_assoc (text_of word) (flat_map (λ word. codes " " ++ text_of word) words) (codes " ")))

pub line_is : (words : List Word) → line_of words ≡ join_by text_of (codes " ") words ++ codes "\n"
unfolding line_of
line_is words = refl

-- a line feed in place of the last space
pub ended : (before : List ℕ) (words : List Word) → words ≢ [] → (front : List ℕ) × (before ++ spaced words ≡ front ++ codes " ") × (before ++ line_of words ≡ front ++ codes "\n")
ended before [] some = absurd (some refl)
ended before (word ∷ words) some = (
  before ++ join_by text_of (codes " ") (word ∷ words),
  ap (λ text. before ++ text) (joined word words) ∙ sym (append_assoc before (join_by text_of (codes " ") (word ∷ words)) (codes " ")),
  ap (λ text. before ++ text) (line_is (word ∷ words)) ∙ sym (append_assoc before (join_by text_of (codes " ") (word ∷ words)) (codes "\n")),
)

-- the last byte is taken off, and a line feed put in its place
pub line_ended : (before : List ℕ) (words : List Word) (old popped new : List ℕ) (len : ℕ) → words ≢ [] → len ≡ length old → popped ≡ take (len - 1) old → new ≡ popped ++ 10 ∷ []
    → old ≡ before ++ spaced words → new ≡ before ++ line_of words
line_ended before words old popped new len some size off put is =
    let (front, open_ended, closed) = ended before words some in
    let whole : old ≡ front ++ 32 ∷ [] = is ∙ open_ended in
    let one_less : len - 1 ≡ length front = omega (arith, ap length whole, length-append front (32 ∷ [])) in
    let left : popped ≡ front = off ∙ (ap (λ n. take n old) one_less ∙ (ap (take (length front)) whole ∙ take-append_seam front (32 ∷ []))) in
    put ∙ (ap (λ text. text ++ 10 ∷ []) left ∙ sym closed)

-- what makes parts of a tree, printed one after another, the words of the whole
pub ruleset words_joined = (spaced_then, spaced_none, append_assoc, append-nil)
