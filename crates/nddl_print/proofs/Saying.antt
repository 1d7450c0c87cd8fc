-- Symbols that are words, and words that can be spelled.
use Rattle.std.proofs.Common.{◌≡◌, ℕ, Bool, true, false, List, [], ◌∷◌, ◌++◌, refl, ap, ◌∙◌}
use Rattle.nddl_grammar.specs.declared.sort.Sort.{Sort}
use Rattle.nddl_grammar.specs.declared.sort.Sort.TheVariants as sorts
use Rattle.nddl_grammar.specs.Symbols.{PlainSymbol}
use Rattle.eu_name.specs.Word.{IsWord, reserved_of}
use Rattle.nddl_lexer.specs.Bytes.{is_quotable, AllPassing}
use Rattle.nddl_lexer.specs.Spelling.{IsNumberInRange}
use Rattle.nddl_parser.specs.Symbols.{word_sort}
use Rattle.nddl_print.specs.Words.{Word, Fixed, Named, Number, Decimal, Quoted}
use Rattle.nddl_print.specs.Canonical.{◌⌢◌}

-- whether the sort has one spelling
abbrev pub is_fixed : Sort → Bool
is_fixed sorts.Name = false
is_fixed sorts.Number = false
is_fixed sorts.Decimal = false
is_fixed sorts.Quoted = false
is_fixed sort = true

abbrev pub IsNamed : List ℕ → Type 0
IsNamed bytes = IsWord bytes × (word_sort (reserved_of bytes) ≡ sorts.Name)

-- the spelling of the word is a lexeme that is read as this word
abbrev pub IsSound : Word → Type 0
IsSound (Fixed sort) = is_fixed sort ≡ true
IsSound (Named bytes) = IsNamed bytes
IsSound (Number value) = IsNumberInRange value
IsSound (Decimal value) = IsNumberInRange value
IsSound (Quoted bytes) = AllPassing is_quotable bytes

abbrev pub AreSound : List Word → Type 0
AreSound [] = Unit {0}
AreSound (word ∷ words) = IsSound word × AreSound words

-- the symbol can be written
pub record IsFine (symbol : PlainSymbol) : Type 0 where
  pub named : symbol.sort ≡ sorts.Name → IsNamed symbol.bytes
  pub number : symbol.sort ≡ sorts.Number → IsNumberInRange symbol.value
  pub decimal : symbol.sort ≡ sorts.Decimal → IsNumberInRange symbol.value
  pub quoted : symbol.sort ≡ sorts.Quoted → AllPassing is_quotable symbol.bytes

abbrev pub AreFine : List PlainSymbol → Type 0
AreFine [] = Unit {0}
AreFine (symbol ∷ symbols) = IsFine symbol × AreFine symbols

-- the symbol is the word
abbrev pub Says : Word → PlainSymbol → Type 0
Says (Fixed sort) symbol = symbol.sort ≡ sort
Says (Named bytes) symbol = (symbol.sort ≡ sorts.Name) × (symbol.bytes ≡ bytes)
Says (Number value) symbol = (symbol.sort ≡ sorts.Number) × (symbol.value ≡ value)
Says (Decimal value) symbol = (symbol.sort ≡ sorts.Decimal) × (symbol.value ≡ value)
Says (Quoted bytes) symbol = (symbol.sort ≡ sorts.Quoted) × (symbol.bytes ≡ bytes)

abbrev pub Say : List Word → List PlainSymbol → Type 0
Say [] symbols = symbols ≡ []
Say (word ∷ words) symbols = (symbol : PlainSymbol) × (rest : List PlainSymbol) × (symbols ≡ symbol ∷ rest) × Says word symbol × Say words rest

pub fine_parts : (front back : List PlainSymbol) → AreFine (front ++ back) → AreFine front × AreFine back
fine_parts [] back fine = (tt, fine)
fine_parts (symbol ∷ front) back fine = let parts = fine_parts front back fine.1 in ((fine.0, parts.0), parts.1)

sound-append : (words more : List Word) → AreSound words → AreSound more → AreSound (words ++ more)
sound-append [] more first rest = rest
sound-append (word ∷ words) more first rest = (first.0, sound-append words more first.1 rest)

pub sound_then : (words more : List Word) → AreSound words → AreSound more → AreSound (words ⌢ more)
unfolding ◌⌢◌
sound_then words more first rest = sound-append words more first rest

say-append : (words more : List Word) (symbols : List PlainSymbol) → Say (words ++ more) symbols → (front : List PlainSymbol) × (back : List PlainSymbol) × (symbols ≡ front ++ back) × Say words front × Say more back
say-append [] more symbols say = ([], symbols, refl, refl, say)
say-append (word ∷ words) more symbols (symbol, rest, split, says, say) =
    let (front, back, halves, first, last) = say-append words more rest say in
    (symbol ∷ front, back, split ∙ ap (λ left. symbol ∷ left) halves, (symbol, front, refl, says, first), last)

pub say_then : (words more : List Word) (symbols : List PlainSymbol) → Say (words ⌢ more) symbols → (front : List PlainSymbol) × (back : List PlainSymbol) × (symbols ≡ front ++ back) × Say words front × Say more back
unfolding ◌⌢◌
say_then words more symbols say = say-append words more symbols say

pub then_assoc : (one two three : List Word) → (one ⌢ two) ⌢ three ≡ one ⌢ (two ⌢ three)
unfolding ◌⌢◌
then_assoc [] two three = refl
then_assoc (word ∷ one) two three = ap (λ rest. word ∷ rest) (then_assoc one two three)

-- the first three of four are a part of their own
pub three_first : (a b c d : List Word) → a ⌢ (b ⌢ (c ⌢ d)) ≡ (a ⌢ (b ⌢ c)) ⌢ d
three_first a b c d = simp then_assoc refl

-- symbols that are one word are one symbol
pub one_said : (word : Word) (symbols : List PlainSymbol) → Say (word ∷ []) symbols → (symbol : PlainSymbol) × (symbols ≡ symbol ∷ []) × Says word symbol
one_said word symbols (symbol, rest, split, says, none) = (symbol, split ∙ ap (λ left. symbol ∷ left) none, says)
