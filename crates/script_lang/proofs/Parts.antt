-- How the words of a line are cut off its front, for any test of what separates them.
use Rattle.std.proofs.Common.{◌≡◌, ℕ, ◌<◌, Bool, true, false, not, List, [], ◌∷◌, ◌++◌, All, length, get_or, take, drop, refl, sym, ◌∙◌, ap, subst, arith, length-drop, add-zero, one-add}
use Rattle.std.specs.Prelude.{filter}
use Rattle.std.specs.List.{slice_split, onto_first, prefix_len}
use Rattle.std.proofs.lemmas.List.{get_or-drop}
use Rattle.std.proofs.lemmas.List.Elements.{filter-append}
use Rattle.std.proofs.lemmas.List.Splits.{slice_split_none}
use Rattle.std.proofs.lemmas.List.Sums.{prefix_len_stops}
use Rattle.script_lang.specs.Words.{is_some_word, is_separator}
use Rattle.script_lang.specs.WordLaws.{RunsAreWords, SeparatorsSplit}

-- the parts that aren't empty
abbrev pub parts : (ℕ → Bool) → List ℕ → List (List ℕ)
parts p line = filter is_some_word (slice_split p line)

abbrev pub passed : (ℕ → Bool) → List ℕ → ℕ
passed p line = prefix_len p line

abbrev pub failed : (ℕ → Bool) → List ℕ → ℕ
failed p line = prefix_len (λ byte. not (p byte)) line

skip_at : (p : ℕ → Bool) (byte : ℕ) (line : List ℕ) (v : Bool) → p byte ≡ v → parts p line ≡ parts p (drop (passed p line) line) → parts p (byte ∷ line) ≡ parts p (drop (passed p (byte ∷ line)) (byte ∷ line))
skip_at p byte line true e rest = rw (e, one-add) rest
skip_at p byte line false e rest = rw (e, e) refl

-- separators at the front part nothing
pub skip : (p : ℕ → Bool) (line : List ℕ) → parts p line ≡ parts p (drop (passed p line) line)
skip p [] = refl
skip p (byte ∷ line) = skip_at p byte line (p byte) refl (skip p line)

-- what the first part is, and that the others are the parts of what follows it
record IsFront (p : ℕ → Bool) (line : List ℕ) : Type 0 where
  others : List (List ℕ)
  split : slice_split p line ≡ take (failed p line) line ∷ others
  after : filter is_some_word others ≡ parts p (drop (failed p line) line)

front_at : (p : ℕ → Bool) (byte : ℕ) (line : List ℕ) (v : Bool) → p byte ≡ v → IsFront p line → IsFront p (byte ∷ line)
front_at p byte line true e rest = record { others = slice_split p line; split = rw e refl; after = rw (e, e) refl }
front_at p byte line false e rest = record {
  others = rest.others;
  split = rw (e, one-add) (ap (onto_first byte) rest.split);
  after = rw (e, one-add) rest.after;
}

front : (p : ℕ → Bool) (line : List ℕ) → IsFront p line
front p [] = record { others = []; split = refl; after = refl }
front p (byte ∷ line) = front_at p byte line (p byte) refl (front p line)

cut_at : (p : ℕ → Bool) (byte : ℕ) (line : List ℕ) → p byte ≡ false → IsFront p (byte ∷ line) → parts p (byte ∷ line) ≡ take (failed p (byte ∷ line)) (byte ∷ line) ∷ parts p (drop (failed p (byte ∷ line)) (byte ∷ line))
cut_at p byte line e f =
    ap (filter is_some_word) f.split ∙ rw (e, one-add) (ap (λ words. (byte ∷ take (failed p line) line) ∷ words) (f.after ∙ rw (e, one-add) refl))

-- where no separator stands at the front, what stands before the first is a part
pub cut : (p : ℕ → Bool) (begun : List ℕ) → 0 < length begun → p (get_or begun 0 0) ≡ false → parts p begun ≡ take (failed p begun) begun ∷ parts p (drop (failed p begun) begun)
cut p [] some e = absurd (omega arith)
cut p (byte ∷ line) some e = cut_at p byte line e (front p (byte ∷ line))

-- after the separators at the front there is none
pub begins : (p : ℕ → Bool) (line : List ℕ) → passed p line < length line → p (get_or (drop (passed p line) line) 0 0) ≡ false
begins p line some = rw (get_or-drop, add-zero) (prefix_len_stops p line 0 some)

-- the first part of a line that has more than separators, and what follows it
pub next_part : (p : ℕ → Bool) (line begun word after : List ℕ) → begun ≡ drop (passed p line) line → 0 < length begun → word ≡ take (failed p begun) begun → after ≡ drop (failed p begun) begun → parts p line ≡ word ∷ parts p after
next_part p line begun word after is some word_is after_is =
    let has_more : passed p line < length line = omega (arith, ap length is, length-drop (passed p line) line) in
    let P : List ℕ → Type 0 = λ l. p (get_or l 0 0) ≡ false in
    skip p line ∙ (ap (parts p) (sym is) ∙ rw (word_is, after_is) (cut p begun some (subst P (sym is) (begins p line has_more))))

no_part_of : (p : ℕ → Bool) (begun : List ℕ) → length begun ≡ 0 → parts p begun ≡ []
no_part_of p [] none = refl
no_part_of p (byte ∷ begun) none = absurd (omega arith)

-- a line of separators has no part
pub no_part : (p : ℕ → Bool) (line begun : List ℕ) → begun ≡ drop (passed p line) line → length begun ≡ 0 → parts p line ≡ []
no_part p line begun is none = skip p line ∙ (ap (parts p) (sym is) ∙ no_part_of p begun none)

split_at : (p : ℕ → Bool) (first : ℕ) (before after : List ℕ) (byte : ℕ) (v : Bool) → p first ≡ v → IsFront p before → slice_split p (before ++ byte ∷ after) ≡ slice_split p before ++ slice_split p after → slice_split p (first ∷ (before ++ byte ∷ after)) ≡ slice_split p (first ∷ before) ++ slice_split p after
split_at p first before after byte true e f rest = rw e (ap (λ words. [] ∷ words) rest)
split_at p first before after byte false e f rest = rw e (ap (onto_first first) rest ∙ rw f.split refl)

-- the parts round a separator, with the empty ones
split_round : (p : ℕ → Bool) (before after : List ℕ) (byte : ℕ) → p byte ≡ true → slice_split p (before ++ byte ∷ after) ≡ slice_split p before ++ slice_split p after
split_round p [] after byte e = rw e refl
split_round p (first ∷ before) after byte e = split_at p first before after byte (p first) refl (front p before) (split_round p before after byte e)

-- the parts round a separator
pub parts_round : (p : ℕ → Bool) (before after : List ℕ) (byte : ℕ) → p byte ≡ true → parts p (before ++ byte ∷ after) ≡ parts p before ++ parts p after
parts_round p before after byte e = ap (filter is_some_word) (split_round p before after byte e) ∙ filter-append is_some_word (slice_split p before) (slice_split p after)

-- what has no separator is one part
pub part_of_run : (p : ℕ → Bool) (first : ℕ) (rest : List ℕ) → All (λ byte. p byte ≡ false) (first ∷ rest) → parts p (first ∷ rest) ≡ (first ∷ rest) ∷ []
part_of_run p first rest none = ap (filter is_some_word) (slice_split_none p (first ∷ rest) none)

pub runs_are_words : RunsAreWords
runs_are_words = part_of_run is_separator

pub blanks_separate : SeparatorsSplit
blanks_separate = parts_round is_separator
