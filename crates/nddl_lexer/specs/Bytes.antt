-- Sorts of bytes, and what is made of them.
use Rattle.std.specs.Prelude.{ℕ, ◌<◌, Bool, not, ◌||◌, ◌==◌, if◌then◌else◌, List, [], ◌∷◌, length, IsTrue}
use Rattle.std.specs.Char.{is_ascii_digit}
use Rattle.std.specs.List.{AllByRecursion}

-- a space, a tab, a carriage return or a line feed
abbrev pub is_blank : ℕ → Bool
is_blank byte = ((byte == 32) || (byte == 9)) || ((byte == 13) || (byte == 10))

-- `+` or `-`
abbrev pub is_sign : ℕ → Bool
is_sign byte = (byte == 43) || (byte == 45)

-- what can stand between quotes: anything but `"` and a line feed
abbrev pub is_quotable : ℕ → Bool
is_quotable byte = not ((byte == 34) || (byte == 10))

-- what goes on a comment after `//`: anything but a line feed
abbrev pub is_in_line : ℕ → Bool
is_in_line byte = not (byte == 10)

-- each byte passes the test
abbrev pub AllPassing : (ℕ → Bool) → List ℕ → Type 0
AllPassing test bytes = AllByRecursion (λ byte. IsTrue (test byte)) bytes

-- decimal digits, one or more
abbrev pub AreDigits : List ℕ → Type 0
AreDigits bytes = (0 < length bytes) × AllPassing is_ascii_digit bytes

-- the bytes after a sign at their front, or all of them where there is none
abbrev pub unsigned : List ℕ → List ℕ
unsigned [] = []
unsigned (byte ∷ bytes) = if is_sign byte then bytes else byte ∷ bytes
