-- Words of the language, and which of them are names.
use Rattle.std.specs.Prelude.{◌≡◌, ℕ, Bool, ◌||◌, ◌==◌, Option, List, [], ◌∷◌, All, Contains, IsTrue, codes, map}
use Rattle.std.specs.List.{find}
use Rattle.std.specs.Str.{bytes_eq}
use Rattle.std.specs.Char.{is_ascii_alphabetic, is_ascii_digit}
use Rattle.eu_name.specs.declared.word.Reserved.{Reserved}
use Rattle.eu_name.specs.declared.word.Reserved.TheVariants as words

-- an ASCII letter or an underscore
abbrev pub is_word_start : ℕ → Bool
is_word_start byte = is_ascii_alphabetic byte || (byte == 95)

-- what may follow it in a word
abbrev pub is_word_byte : ℕ → Bool
is_word_byte byte = is_word_start byte || is_ascii_digit byte

-- the bytes spell a word: `inf` alone never does, since it is a number
abbrev pub IsWord : List ℕ → Type 0
IsWord [] = ⊥
IsWord (first ∷ rest) =
    IsTrue (is_word_start first) × All (λ byte. IsTrue (is_word_byte byte)) rest × (first ∷ rest ≡ codes "inf" → ⊥)

-- how each word that the language keeps for itself is spelled
abbrev pub reserved_word : Reserved → List ℕ
reserved_word words.Class = codes "class"
reserved_word words.Predicate = codes "predicate"
reserved_word words.Enum = codes "enum"
reserved_word words.Typedef = codes "typedef"
reserved_word words.Extends = codes "extends"
reserved_word words.New = codes "new"
reserved_word words.If = codes "if"
reserved_word words.Else = codes "else"
reserved_word words.Foreach = codes "foreach"
reserved_word words.In = codes "in"
reserved_word words.Int = codes "int"
reserved_word words.Float = codes "float"
reserved_word words.Bool = codes "bool"
reserved_word words.Str = codes "string"
reserved_word words.True = codes "true"
reserved_word words.False = codes "false"
reserved_word words.Super = codes "super"

-- all of them
abbrev pub all_reserved : List Reserved
all_reserved =
    words.Class ∷ words.Predicate ∷ words.Enum ∷ words.Typedef ∷ words.Extends ∷ words.New
    ∷ words.If ∷ words.Else ∷ words.Foreach ∷ words.In ∷ words.Int ∷ words.Float ∷ words.Bool
    ∷ words.Str ∷ words.True ∷ words.False ∷ words.Super ∷ []

-- the one that the bytes spell, if they spell one
unfoldable pub reserved_of : List ℕ → Option Reserved
reserved_of bytes = find (λ word. bytes_eq (reserved_word word) bytes) all_reserved

-- their spellings
abbrev pub reserved_words : List (List ℕ)
reserved_words = map reserved_word all_reserved

-- a name is a word that isn't reserved
abbrev pub IsName : List ℕ → Type 0
IsName bytes = IsWord bytes × (Contains reserved_words bytes → ⊥)
