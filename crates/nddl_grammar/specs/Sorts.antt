-- When two sorts are one.
use Rattle.std.specs.Prelude.{ℕ, Bool, ◌==◌, ◌&&◌, List, []}
use Rattle.std.specs.Str.{bytes_eq}
use Rattle.eu_name.specs.Word.{reserved_word}
use Rattle.nddl_grammar.specs.declared.sort.Sort.{Sort}
use Rattle.nddl_grammar.specs.declared.sort.Sort.TheVariants as sorts

-- the number of a sort, by which it is told from others; reserved words have one together
abbrev pub sort_number : Sort → ℕ
sort_number sorts.Name = 0
sort_number (sorts.Word word) = 1
sort_number sorts.Number = 2
sort_number sorts.Decimal = 3
sort_number sorts.Quoted = 4
sort_number sorts.Include = 5
sort_number sorts.BraceOpen = 6
sort_number sorts.BraceClose = 7
sort_number sorts.ParenOpen = 8
sort_number sorts.ParenClose = 9
sort_number sorts.BracketOpen = 10
sort_number sorts.BracketClose = 11
sort_number sorts.Semicolon = 12
sort_number sorts.Comma = 13
sort_number sorts.Point = 14
sort_number sorts.Assign = 15
sort_number sorts.Equal = 16
sort_number sorts.NotEqual = 17
sort_number sorts.DoubleColon = 18

-- by what reserved words are told from each other: how they are spelled
abbrev pub word_spelling : Sort → List ℕ
word_spelling (sorts.Word word) = reserved_word word
word_spelling other = []

-- whether the two are one sort
unfoldable pub same : Sort → Sort → Bool
same one other = sort_number one == sort_number other && bytes_eq (word_spelling one) (word_spelling other)
