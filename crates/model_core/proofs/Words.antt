-- That a written word is a name, and that it is none of some others, by tests that compute.
use Rattle.std.proofs.Common.{◌≡◌, ℕ, Bool, true, false, List, [], ◌∷◌, zero, suc, refl, sym, ◌∙◌, arith}
use Rattle.std.specs.Prelude.{◌≢◌, ◌||◌, ◌&&◌, not, IsTrue, AllPairs, Contains, bytes_eq, codes}
use Rattle.std.specs.List.{AllByRecursion}
use Rattle.std.proofs.lemmas.Slice.Eq.{bytes_eq-Decides}
use Rattle.std.proofs.lemmas.List.{get_or_default}
use Rattle.std.proofs.lemmas.List.Elements.{All-from_recursion}
use Rattle.eu_name.specs.Word.{is_word_start, is_word_byte, IsName, reserved_words}

-- whether the word is one of the words
abbrev pub is_among : List (List ℕ) → List ℕ → Bool
is_among [] word = false
is_among (other ∷ words) word = bytes_eq other word || is_among words word

both_false : (b c : Bool) → (b || c) ≡ false → (b ≡ false) × (c ≡ false)
both_false false c h = (refl, h)
both_false true c h = cc

both_true : (b c : Bool) → (b && c) ≡ true → (b ≡ true) × (c ≡ true)
both_true true c h = (refl, h)
both_true false c h = cc

pub not_contained : (words : List (List ℕ)) (word : List ℕ) → is_among words word ≡ false → Contains words word → ⊥
not_contained [] word test (k, within, is) = omega (arith, within)
not_contained (other ∷ words) word test (zero, within, is) =
    let same : bytes_eq other word ≡ true = (bytes_eq-Decides other word).1 is in
    let differs = (both_false (bytes_eq other word) (is_among words word) test).0 in
    cc
not_contained (other ∷ words) word test (suc k, within, is) =
    not_contained words word (both_false (bytes_eq other word) (is_among words word) test).1 (k, omega (arith, within), is)

-- whether each byte may follow in a word
abbrev pub are_word_bytes : List ℕ → Bool
are_word_bytes [] = true
are_word_bytes (byte ∷ bytes) = is_word_byte byte && are_word_bytes bytes

word_bytes : (bytes : List ℕ) → are_word_bytes bytes ≡ true → AllByRecursion (λ byte. IsTrue (is_word_byte byte)) bytes
word_bytes [] test = tt
word_bytes (byte ∷ bytes) test =
    let both = both_true (is_word_byte byte) (are_word_bytes bytes) test in
    (both.0, word_bytes bytes both.1)

-- the test that a name passes
abbrev pub is_plain : List ℕ → Bool
is_plain [] = false
is_plain (first ∷ rest) = is_word_start first && (are_word_bytes rest && not (is_among (codes "inf" ∷ reserved_words) (first ∷ rest)))

not_true : (b : Bool) → not b ≡ true → b ≡ false
not_true false h = refl
not_true true h = cc

pub plain_name : (word : List ℕ) → is_plain word ≡ true → IsName word
plain_name [] test = cc
plain_name (first ∷ rest) test =
    let outer = both_true (is_word_start first) _ test in
    let inner = both_true (are_word_bytes rest) _ outer.1 in
    let others : Contains (codes "inf" ∷ reserved_words) (first ∷ rest) → ⊥ = not_contained (codes "inf" ∷ reserved_words) (first ∷ rest) (not_true _ inner.1) in (
      (outer.0, All-from_recursion (λ byte. IsTrue (is_word_byte byte)) rest (word_bytes rest inner.0), λ is. others (0, omega arith, sym is)),
      λ reserved. others (suc reserved.0, omega (arith, reserved.1), reserved.2),
    )

-- the test that words pass of which none stands twice
abbrev pub all_differ : List (List ℕ) → Bool
all_differ [] = true
all_differ (word ∷ words) = not (is_among words word) && all_differ words

pub differing : (words : List (List ℕ)) → all_differ words ≡ true → AllPairs ◌≢◌ words
differing [] test i j d below within = absurd (omega (arith, within))
differing (word ∷ words) test zero zero d below within = absurd (omega (arith, below))
differing (word ∷ words) test zero (suc j) d below within = λ same.
    let here = (both_true (not (is_among words word)) (all_differ words) test).0 in
    not_contained words word (not_true _ here) (j, omega (arith, within), get_or_default words j word d (omega (arith, within)) ∙ sym same)
differing (word ∷ words) test (suc i) zero d below within = absurd (omega (arith, below))
differing (word ∷ words) test (suc i) (suc j) d below within =
    differing words (both_true (not (is_among words word)) (all_differ words) test).1 i j d (omega (arith, below)) (omega (arith, within))
