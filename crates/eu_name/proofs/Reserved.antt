-- Reserved words are found exactly where they are spelled.
use Rattle.std.proofs.Common.{◌≡◌, ℕ, suc, zero, ◌<◌, Bool, true, false, cond, Contains, List, [], ◌∷◌, length, map, get_or, refl, arith}
use Rattle.std.specs.Prelude.{Some, is_some}
use Rattle.std.specs.List.{find}
use Rattle.std.specs.Str.{bytes_eq}
use Rattle.std.proofs.lemmas.Bool.{both_ways}
use Rattle.std.proofs.lemmas.Slice.Eq.{bytes_eq-Decides}
use Rattle.eu_name.specs.Word.{reserved_word, all_reserved, reserved_of, reserved_words}
use Rattle.eu_name.specs.declared.word.Reserved.{Reserved}
use Rattle.eu_name.specs.declared.word.Reserved.TheVariants as words

-- whether the word is spelled so
abbrev spells : List ℕ → Reserved → Bool
spells bytes word = bytes_eq (reserved_word word) bytes

found : (words : List Reserved) (bytes : List ℕ) → is_some (find (spells bytes) words) ≡ true → Contains (map reserved_word words) bytes
found [] bytes is = absurd cc
found (word ∷ words) bytes is = chosen (found words bytes) (spells bytes word) refl is where
  chosen : (is_some (find (spells bytes) words) ≡ true → Contains (map reserved_word words) bytes) → (flag : Bool) → spells bytes word ≡ flag
      → is_some (cond flag (Some word) (find (spells bytes) words)) ≡ true → Contains (map reserved_word (word ∷ words)) bytes
  chosen further true same found = (0, omega arith, (bytes_eq-Decides (reserved_word word) bytes).0 same)
  chosen further false other found = let later = further found in (suc later.0, omega (arith, later.1), later.2)

contained : (words : List Reserved) (bytes : List ℕ) (k : ℕ) → k < length (map reserved_word words) → get_or (map reserved_word words) k bytes ≡ bytes
    → is_some (find (spells bytes) words) ≡ true
contained [] bytes k within is = absurd (omega (arith, within))
contained (word ∷ words) bytes k within is = chosen (contained words bytes) k within is (spells bytes word) refl where
  chosen : ((n : ℕ) → n < length (map reserved_word words) → get_or (map reserved_word words) n bytes ≡ bytes → is_some (find (spells bytes) words) ≡ true)
      → (k : ℕ) → k < length (map reserved_word (word ∷ words)) → get_or (map reserved_word (word ∷ words)) k bytes ≡ bytes → (flag : Bool) → spells bytes word ≡ flag
      → is_some (cond flag (Some word) (find (spells bytes) words)) ≡ true
  chosen further k within is true same = refl
  chosen further zero within is false other = absurd (both_ways _ other ((bytes_eq-Decides (reserved_word word) bytes).1 is))
  chosen further (suc k) within is false other = further k (omega (arith, within)) is

pub is_reserved : (bytes : List ℕ) → is_some (reserved_of bytes) ≡ true → Contains reserved_words bytes
unfolding reserved_of
is_reserved bytes is = found all_reserved bytes is

pub reserved_is : (bytes : List ℕ) → Contains reserved_words bytes → is_some (reserved_of bytes) ≡ true
unfolding reserved_of
reserved_is bytes contains = contained all_reserved bytes contains.0 contains.1 contains.2

-- each reserved word is the one that its spelling spells
pub reserved_back : (word : Reserved) → reserved_of (reserved_word word) ≡ Some word
unfolding reserved_of
reserved_back words.Class = refl
reserved_back words.Predicate = refl
reserved_back words.Enum = refl
reserved_back words.Typedef = refl
reserved_back words.Extends = refl
reserved_back words.New = refl
reserved_back words.If = refl
reserved_back words.Else = refl
reserved_back words.Foreach = refl
reserved_back words.In = refl
reserved_back words.Int = refl
reserved_back words.Float = refl
reserved_back words.Bool = refl
reserved_back words.Str = refl
reserved_back words.True = refl
reserved_back words.False = refl
reserved_back words.Super = refl
