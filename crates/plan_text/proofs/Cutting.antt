-- The next word of a text.
use Rattle.std.proofs.Common.{◌≡◌, ℕ, ◌<◌, Bool, true, false, not, List, [], ◌∷◌, ◌++◌, length, take, drop, Option, Some, None, refl, sym, ◌∙◌, ap, arith, All}
use Rattle.std.specs.Prelude.{MatchOption}
use Rattle.std.specs.List.{prefix_len, AllByRecursion}
use Rattle.std.proofs.lemmas.List.{take-append-drop}
use Rattle.std.proofs.lemmas.List.Elements.{All-from_recursion, recursion_from_All}
use Rattle.eu_name.proofs.Fronts.{Passes, Stops, same_fronts, prefix_passes, prefix_stops, is_prefix}
use Rattle.plan_text.specs.Words.{is_gap, IsPaused, HasWord, HasNoWord}

abbrev goes_on : ℕ → Bool
goes_on byte = not (is_gap byte)

was_false : (b : Bool) → not b ≡ true → b ≡ false
was_false true is = cc
was_false false is = refl

was_true : (b : Bool) → not b ≡ false → b ≡ true
was_true true is = refl
was_true false is = cc

is_not : (b : Bool) → b ≡ false → not b ≡ true
is_not true is = cc
is_not false is = refl

is_no : (b : Bool) → b ≡ true → not b ≡ false
is_no true is = refl
is_no false is = cc

unbroken : (word : List ℕ) → Passes goes_on word → All (λ byte. is_gap byte ≡ false) word
unbroken word passes = All-from_recursion (λ byte. is_gap byte ≡ false) word (plain word passes)
  where
    plain : (word : List ℕ) → Passes goes_on word → AllByRecursion (λ byte. is_gap byte ≡ false) word
    plain [] passes = tt
    plain (byte ∷ word) passes = (was_false (is_gap byte) passes.0, plain word passes.1)

passing : (word : List ℕ) → All (λ byte. is_gap byte ≡ false) word → Passes goes_on word
passing word are = from word (recursion_from_All (λ byte. is_gap byte ≡ false) word are)
  where
    from : (word : List ℕ) → AllByRecursion (λ byte. is_gap byte ≡ false) word → Passes goes_on word
    from [] are = tt
    from (byte ∷ word) are = (is_not (is_gap byte) are.0, from word are.1)

paused : (rest : List ℕ) → Stops goes_on rest → IsPaused rest
paused [] stops = tt
paused (byte ∷ rest) stops = was_true (is_gap byte) stops

stopping : (rest : List ℕ) → IsPaused rest → Stops goes_on rest
stopping [] pauses = tt
stopping (byte ∷ rest) pauses = is_no (is_gap byte) pauses

-- the bytes before the first gap are the word that the text begins with
pub has_first : (text word rest : List ℕ) (len : ℕ) → len ≡ prefix_len goes_on text → word ≡ take len text → rest ≡ drop len text → 0 < length word → HasWord [] text word rest
has_first text word rest len is front back some = record {
  whole = rw (front, back) (sym (take-append-drop len text));
  unbroken = (some, rw (front, is) (unbroken (take (prefix_len goes_on text) text) (prefix_passes goes_on text)));
  paused = rw (back, is) (paused (drop (prefix_len goes_on text) text) (prefix_stops goes_on text));
}

-- what follows a gap is one
same_behind : (gap one two : List ℕ) → gap ++ one ≡ gap ++ two → one ≡ two
same_behind [] one two is = is
same_behind (byte ∷ gap) one two is = let tails : gap ++ one ≡ gap ++ two = cc in same_behind gap one two tails

-- a text goes on with one word
pub one_word : (gap text word rest other left : List ℕ) → HasWord gap text word rest → HasWord gap text other left → (word ≡ other) × (rest ≡ left)
one_word gap text word rest other left first second =
    same_fronts goes_on word other rest left (passing word first.unbroken.1) (passing other second.unbroken.1) (stopping rest first.paused) (stopping left second.paused)
    (same_behind gap (word ++ rest) (other ++ left) (sym first.whole ∙ second.whole))

-- there is none where no byte comes before the first gap
pub has_no_first : (text front : List ℕ) (len : ℕ) → len ≡ prefix_len goes_on text → front ≡ take len text → length front ≡ 0 → HasNoWord [] text
has_no_first text front len is cut none word rest has =
    let same = is_prefix goes_on text word rest (passing word has.unbroken.1) (stopping rest has.paused) has.whole in
    let empty : length word ≡ 0 = ap length (sym same.0) ∙ (ap (λ n. length (take n text)) (sym is) ∙ (ap length (sym cut) ∙ none)) in
    absurd (omega (arith, empty, has.unbroken.0))

-- the same behind a gap
pub has_behind : (gap text after word rest : List ℕ) → text ≡ gap ++ after → HasWord [] after word rest → HasWord gap text word rest
has_behind gap text after word rest whole has = record { whole = whole ∙ ap (λ bytes. gap ++ bytes) has.whole; unbroken = has.unbroken; paused = has.paused }

pub has_none_behind : (gap text after : List ℕ) → text ≡ gap ++ after → HasNoWord [] after → HasNoWord gap text
has_none_behind gap text after whole none word rest has =
    none word rest (record { whole = same_behind gap after (word ++ rest) (sym whole ∙ has.whole); unbroken = has.unbroken; paused = has.paused })

pub has_no_gap : (gap text : List ℕ) → ((rest : List ℕ) → text ≡ gap ++ rest → ⊥) → HasNoWord gap text
has_no_gap gap text none word rest has = none (word ++ rest) has.whole

pub behind_gap : {R : Type 0} (word rest : R → List ℕ) (gap text after : List ℕ) (r : Option R) → text ≡ gap ++ after → MatchOption r (HasNoWord [] after) (λ f. HasWord [] after (word f) (rest f))
    → MatchOption r (HasNoWord gap text) (λ f. HasWord gap text (word f) (rest f))
behind_gap word rest gap text after None whole none = has_none_behind gap text after whole none
behind_gap word rest gap text after (Some f) whole has = has_behind gap text after (word f) (rest f) whole has
