-- From the words of a tree, a tree that is the same: by one lemma for each way to put languages together.
use Rattle.std.proofs.Common.{◌≡◌, ℕ, true, inr, List, [], ◌∷◌, refl, sym, subst}
use Rattle.nddl_grammar.specs.declared.sort.Sort.{Sort}
use Rattle.nddl_grammar.specs.declared.sort.Sort.TheVariants as sorts
use Rattle.nddl_grammar.specs.Symbols.{PlainSymbol}
use Rattle.nddl_grammar.specs.Exact.{◌·◌, IsPlaced, IsMark, AreMany, AreFollowing, AreSeparated, AreListed, MayMark}
use Rattle.nddl_grammar.proofs.Lists.{append_none}
use Rattle.nddl_ast.specs.Same.{AllSame}
use Rattle.nddl_print.specs.Words.{Word, Fixed}
use Rattle.nddl_print.specs.Canonical.{◌⌢◌, fixed, many_words, following_words, listed_words}
use Rattle.nddl_print.proofs.Saying.{is_fixed, AreSound, AreFine, Say, fine_parts, sound_then, say_then, one_said}

-- the words can be spelled where the value has symbols that can, and symbols that are these words are those of a value that is the same
pub record Reprints {X : Type 0} (Is : X → List PlainSymbol → Type 0) (Same : X → X → Type 0) (words : List Word) (x : X) : Type 0 where
  pub sound : (symbols : List PlainSymbol) → AreFine symbols → Is x symbols → AreSound words
  pub again : (old symbols : List PlainSymbol) → Is x old → Say words symbols → (y : X) × Is y symbols × Same x y

-- the same of words of which no value is kept
pub record Repeats (Is : List PlainSymbol → Type 0) (words : List Word) : Type 0 where
  pub sound : AreSound words
  pub again : (symbols : List PlainSymbol) → Say words symbols → Is symbols

abbrev pub Pair : {X Y : Type 0} → (X → List PlainSymbol → Type 0) → (Y → List PlainSymbol → Type 0) → X × Y → List PlainSymbol → Type 0
Pair P Q p = P p.0 · Q p.1

abbrev pub SamePair : {X Y : Type 0} → (X → X → Type 0) → (Y → Y → Type 0) → X × Y → X × Y → Type 0
SamePair SameX SameY p q = SameX p.0 q.0 × SameY p.1 q.1

pub both : {X Y : Type 0} {P : X → List PlainSymbol → Type 0} {Q : Y → List PlainSymbol → Type 0} {SameX : X → X → Type 0} {SameY : Y → Y → Type 0} {a b : List Word} {x : X} {y : Y}
    → Reprints P SameX a x → Reprints Q SameY b y → Reprints (Pair P Q) (SamePair SameX SameY) (a ⌢ b) (x, y)
both {a = a} {b = b} one other = record {
  sound = λ symbols fine is.
      let parts = fine_parts is.0 is.1 (subst AreFine is.2 fine) in
      sound_then a b (one.sound is.0 parts.0 is.3) (other.sound is.1 parts.1 is.4);
  again = λ old symbols is say.
      let (front, back, split, first, rest) = say_then a b symbols say in
      let (x', is_x, same_x) = one.again is.0 front is.3 first in
      let (y', is_y, same_y) = other.again is.1 back is.4 rest in
      ((x', y'), (front, back, split, is_x, is_y), (same_x, same_y));
}

-- a value made of another
pub mapped : {X Y : Type 0} {P : X → List PlainSymbol → Type 0} {Q : Y → List PlainSymbol → Type 0} {SameX : X → X → Type 0} {SameY : Y → Y → Type 0} {words : List Word} (f : X → Y) (x : X)
    → ((z : X) (symbols : List PlainSymbol) → P z symbols → Q (f z) symbols) → ((symbols : List PlainSymbol) → Q (f x) symbols → P x symbols) → ((z : X) → SameX x z → SameY (f x) (f z))
    → Reprints P SameX words x → Reprints Q SameY words (f x)
mapped f x to from same one = record {
  sound = λ symbols fine is. one.sound symbols fine (from symbols is);
  again = λ old symbols is say. let (z, is_z, same_z) = one.again old symbols (from old is) say in (f z, to z symbols is_z, same z same_z);
}

-- the same words in other groups
pub reworded : {X : Type 0} {P : X → List PlainSymbol → Type 0} {Same : X → X → Type 0} {words others : List Word} {x : X} → words ≡ others → Reprints P Same words x → Reprints P Same others x
reworded is one = record {
  sound = λ symbols fine derived. subst AreSound is (one.sound symbols fine derived);
  again = λ old symbols derived say. one.again old symbols derived (subst (λ words. Say words symbols) (sym is) say);
}

pub mark : (sort : Sort) → is_fixed sort ≡ true → Repeats (IsMark sort) (fixed sort)
mark sort is = record {
  sound = (is, tt);
  again = λ symbols say. let (symbol, only, says) = one_said (Fixed sort) symbols say in record { symbol = symbol; only = only; sorted = says };
}

pub marks : {P Q : List PlainSymbol → Type 0} {a b : List Word} → Repeats P a → Repeats Q b → Repeats (P · Q) (a ⌢ b)
marks {a = a} {b = b} one other = record {
  sound = sound_then a b one.sound other.sound;
  again = λ symbols say.
      let (front, back, split, first, rest) = say_then a b symbols say in
      (front, back, split, one.again front first, other.again back rest);
}

-- a mark that can be left out, left out at the end
pub mark_may : {P : List PlainSymbol → Type 0} {words : List Word} (sort : Sort) → Repeats P words → Repeats (P · MayMark sort) words
mark_may sort one = record {
  sound = one.sound;
  again = λ symbols say. (symbols, [], sym (append_none symbols), one.again symbols say, inr refl);
}

pub then_may : {X : Type 0} {P : X → List PlainSymbol → Type 0} {Same : X → X → Type 0} {words : List Word} {x : X} (sort : Sort) → Reprints P Same words x → Reprints (λ z. P z · MayMark sort) Same words x
then_may sort one = record {
  sound = λ symbols fine is. one.sound is.0 (fine_parts is.0 is.1 (subst AreFine is.2 fine)).0 is.3;
  again = λ old symbols is say. let (z, is_z, same) = one.again is.0 symbols is.3 say in (z, (symbols, [], sym (append_none symbols), is_z, inr refl), same);
}

-- and left out at the front
pub may_then : {X : Type 0} {P : X → List PlainSymbol → Type 0} {Same : X → X → Type 0} {words : List Word} {x : X} (sort : Sort) → Reprints P Same words x → Reprints (λ z. MayMark sort · P z) Same words x
may_then sort one = record {
  sound = λ symbols fine is. one.sound is.1 (fine_parts is.0 is.1 (subst AreFine is.2 fine)).1 is.4;
  again = λ old symbols is say. let (z, is_z, same) = one.again is.1 symbols is.4 say in (z, ([], symbols, refl, inr refl, is_z), same);
}

pub after : {X : Type 0} {P : List PlainSymbol → Type 0} {Q : X → List PlainSymbol → Type 0} {Same : X → X → Type 0} {a b : List Word} {x : X} → Repeats P a → Reprints Q Same b x → Reprints (λ z. P · Q z) Same (a ⌢ b) x
after {a = a} {b = b} one other = record {
  sound = λ symbols fine is. sound_then a b one.sound (other.sound is.1 (fine_parts is.0 is.1 (subst AreFine is.2 fine)).1 is.4);
  again = λ old symbols is say.
      let (front, back, split, first, rest) = say_then a b symbols say in
      let (z, is_z, same) = other.again is.1 back is.4 rest in
      (z, (front, back, split, one.again front first, is_z), same);
}

pub before : {X : Type 0} {P : List PlainSymbol → Type 0} {Q : X → List PlainSymbol → Type 0} {Same : X → X → Type 0} {a b : List Word} {x : X} → Reprints Q Same a x → Repeats P b → Reprints (λ z. Q z · P) Same (a ⌢ b) x
before {a = a} {b = b} one other = record {
  sound = λ symbols fine is. sound_then a b (one.sound is.0 (fine_parts is.0 is.1 (subst AreFine is.2 fine)).0 is.3) other.sound;
  again = λ old symbols is say.
      let (front, back, split, first, rest) = say_then a b symbols say in
      let (z, is_z, same) = one.again is.0 front is.3 first in
      (z, (front, back, split, is_z, other.again back rest), same);
}

abbrev pub AnyPlace : ℕ → ℕ → Type 0
AnyPlace one other = Unit {0}

-- a reserved word or a mark whose place is kept
pub placed : (sort : Sort) (at : ℕ) → is_fixed sort ≡ true → Reprints (IsPlaced sort) AnyPlace (fixed sort) at
placed sort at is = record {
  sound = λ symbols fine derived. (is, tt);
  again = λ old symbols derived say. let (symbol, only, says) = one_said (Fixed sort) symbols say in (symbol.at, record { symbol = symbol; only = only; sorted = says; placed = refl }, tt);
}

-- the same before what follows it
pub after_placed : {X : Type 0} {Q : X → List PlainSymbol → Type 0} {Same : X → X → Type 0} {b : List Word} {x : X} (sort : Sort) (at : ℕ) → is_fixed sort ≡ true → Reprints Q Same b x
    → Reprints {X = ℕ × X} (λ p. IsPlaced sort p.0 · Q p.1) (λ p q. Same p.1 q.1) (fixed sort ⌢ b) (at, x)
after_placed {X = X} {Q = Q} {x = x} sort at is one =
    mapped {X = ℕ × X} (λ p. p) (at, x) (λ p symbols derived. derived) (λ symbols derived. derived) (λ p same. same.1) (both (placed sort at is) one)

-- ---- lists

-- lemmas for each item
abbrev pub EachReprints : {X : Type 0} (Is : X → List PlainSymbol → Type 0) (Same : X → X → Type 0) (words : X → List Word) → Type 0
EachReprints {X = X} Is Same words = (x : X) → Reprints Is Same (words x) x

pub many : {X : Type 0} {Is : X → List PlainSymbol → Type 0} {Same : X → X → Type 0} {words : X → List Word} → EachReprints Is Same words → (xs : List X) → Reprints (AreMany Is) (AllSame Same) (many_words words xs) xs
many item [] = record { sound = λ symbols fine is. tt; again = λ old symbols is say. ([], say, tt) }
many {X = X} item (x ∷ xs) = mapped {X = X × List X} (λ p. p.0 ∷ p.1) (x, xs) (λ p symbols derived. derived) (λ symbols derived. derived) (λ p same. same) (both (item x) (many item xs))

pub following : {X : Type 0} {Is : X → List PlainSymbol → Type 0} {Same : X → X → Type 0} {words : X → List Word} (sort : Sort) → is_fixed sort ≡ true → EachReprints Is Same words → (xs : List X)
    → Reprints (AreFollowing sort Is) (AllSame Same) (following_words sort words xs) xs
following {words = words} sort is item xs = many {words = λ x. fixed sort ⌢ words x} (λ x. after (mark sort is) (item x)) xs

pub separated : {X : Type 0} {Is : X → List PlainSymbol → Type 0} {Same : X → X → Type 0} {words : X → List Word} → EachReprints Is Same words → (xs : List X)
    → Reprints (AreSeparated sorts.Comma Is) (AllSame Same) (listed_words words xs) xs
separated item [] = record { sound = λ symbols fine is. absurd is; again = λ old symbols is say. absurd is }
separated {X = X} item (x ∷ xs) =
    mapped {X = X × List X} (λ p. p.0 ∷ p.1) (x, xs) (λ p symbols derived. derived) (λ symbols derived. derived) (λ p same. same) (both (item x) (following sorts.Comma refl item xs))

pub listed : {X : Type 0} {Is : X → List PlainSymbol → Type 0} {Same : X → X → Type 0} {words : X → List Word} → EachReprints Is Same words → (xs : List X)
    → Reprints (AreListed sorts.Comma Is) (AllSame Same) (listed_words words xs) xs
listed item [] = record { sound = λ symbols fine is. tt; again = λ old symbols is say. ([], say, tt) }
listed {X = X} item (x ∷ xs) =
    mapped {X = X × List X} (λ p. p.0 ∷ p.1) (x, xs) (λ p symbols derived. derived) (λ symbols derived. derived) (λ p same. same) (both (item x) (following sorts.Comma refl item xs))
