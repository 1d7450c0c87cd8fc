-- How far each sort of piece goes, told by its first byte. What the scan finds is a piece as Spelling and Reading
-- have it, and the longest.
use Rattle.std.specs.Prelude.{ℕ, ◌+◌, Bool, false, ◌&&◌, ◌==◌, if◌then◌else◌, Option, Some}
use Rattle.std.specs.Prelude.{None, Result, Ok, Err, List, [], ◌∷◌, take, drop, codes, slice_index}
use Rattle.std.specs.Char.{is_ascii_digit}
use Rattle.std.specs.List.{prefix_len, starts_with}
use Rattle.std.specs.Prelude.{nat_eq}
use Rattle.std.specs.Str.{bytes_eq}
use Rattle.eu_name.specs.Word.{is_word_start, is_word_byte}
use Rattle.nddl_lexer.specs.declared.kinds.LexKind.{LexKind}
use Rattle.nddl_lexer.specs.declared.kinds.LexKind.TheVariants as kinds
use Rattle.nddl_lexer.specs.declared.fronts.Class.{Class}
use Rattle.nddl_lexer.specs.declared.fronts.Class.TheVariants.{Blank, Letter, Digit, Sign, Quote, Hash, Slash, Other}
use Rattle.nddl_lexer.specs.declared.fronts.Front.{Front}
use Rattle.nddl_lexer.specs.declared.fronts.Stop.{Stop}
use Rattle.nddl_lexer.specs.declared.fronts.Stop.TheVariants.{BadByte, OpenComment}
use Rattle.nddl_lexer.specs.Bytes.{is_blank, is_sign, is_quotable, is_in_line}

-- a blank or a comment of this length
abbrev pub gap_of : ℕ → Front
gap_of len = record { kind = None; len = len }

-- a lexeme of this length
abbrev pub lexeme_of : LexKind → ℕ → Front
lexeme_of kind len = record { kind = Some kind; len = len }

-- what can begin with the byte
abbrev pub class_of : ℕ → Class
class_of byte =
    if is_blank byte then Blank
    else (if is_word_start byte then Letter
    else (if is_ascii_digit byte then Digit
    else (if is_sign byte then Sign
    else (if byte == 34 then Quote
    else (if byte == 35 then Hash
    else (if byte == 47 then Slash else Other))))))

-- letters that are no word are a number
abbrev pub kind_of_word : List ℕ → LexKind
kind_of_word bytes = if bytes_eq bytes (codes "inf") then kinds.Number else kinds.Word

abbrev pub word_len : List ℕ → ℕ
word_len text = prefix_len is_word_byte text

abbrev pub digits_len : List ℕ → ℕ
digits_len text = prefix_len is_ascii_digit text

abbrev pub begins_with_digit : List ℕ → Bool
begins_with_digit [] = false
begins_with_digit (byte ∷ bytes) = is_ascii_digit byte

-- a point and digits, or nothing
abbrev pub fraction_len : List ℕ → ℕ
fraction_len [] = 0
fraction_len (byte ∷ bytes) = if (byte == 46) && begins_with_digit bytes then digits_len bytes + 1 else 0

-- digits, with a fraction or none, of which one is known to be there
abbrev pub amount_of : ℕ → ℕ → Front
amount_of whole fraction =
    if fraction == 0 then lexeme_of kinds.Number whole else lexeme_of kinds.Decimal (whole + fraction)

abbrev pub amount_at : List ℕ → Front
amount_at text = amount_of (digits_len text) (fraction_len (drop (digits_len text) text))

abbrev pub longer_by_one : Front → Front
longer_by_one front = record { kind = front.kind; len = front.len + 1 }

-- after a sign
abbrev pub after_sign : List ℕ → Result Front Stop
after_sign rest =
    if starts_with nat_eq rest (codes "inf") then Ok (lexeme_of kinds.Number 4)
    else (if begins_with_digit rest then Ok (longer_by_one (amount_at rest)) else Err BadByte)

-- after a quote
abbrev pub after_quote : List ℕ → Result Front Stop
after_quote rest =
    let inside = prefix_len is_quotable rest in
    if slice_index rest inside == 34 then Ok (lexeme_of kinds.Str (inside + 2)) else Err BadByte

-- after `#`
abbrev pub after_hash : List ℕ → Result Front Stop
after_hash rest = if starts_with nat_eq rest (codes "include") then Ok (lexeme_of kinds.Include 8) else Err BadByte

-- up to the first `*/`, and with it
abbrev pub longer : Option ℕ → Option ℕ
longer None = None
longer (Some len) = Some (len + 1)

abbrev pub close_len : List ℕ → Option ℕ
close_len [] = None
close_len (byte ∷ bytes) = if (byte == 42) && (slice_index bytes 0 == 47) then Some 2 else longer (close_len bytes)

abbrev pub block_of : Option ℕ → Result Front Stop
block_of None = Err OpenComment
block_of (Some len) = Ok (gap_of (len + 2))

-- after `/`
abbrev pub after_slash : List ℕ → Result Front Stop
after_slash [] = Err BadByte
after_slash (byte ∷ bytes) =
    if byte == 47 then Ok (gap_of (prefix_len is_in_line bytes + 2))
    else (if byte == 42 then block_of (close_len bytes) else Err BadByte)

-- marks of two bytes, and of one
abbrev pub double_mark : ℕ → ℕ → Option LexKind
double_mark first second =
    if (first == 61) && (second == 61) then Some kinds.Equal
    else (if (first == 33) && (second == 61) then Some kinds.NotEqual
    else (if (first == 58) && (second == 58) then Some kinds.DoubleColon else None))

abbrev pub single_mark : ℕ → Option LexKind
single_mark byte =
    if byte == 123 then Some kinds.BraceOpen
    else (if byte == 125 then Some kinds.BraceClose
    else (if byte == 40 then Some kinds.ParenOpen
    else (if byte == 41 then Some kinds.ParenClose
    else (if byte == 91 then Some kinds.BracketOpen
    else (if byte == 93 then Some kinds.BracketClose
    else (if byte == 59 then Some kinds.Semicolon
    else (if byte == 44 then Some kinds.Comma
    else (if byte == 46 then Some kinds.Point
    else (if byte == 61 then Some kinds.Assign else None)))))))))

abbrev pub mark_of : Option LexKind → Option LexKind → Result Front Stop
mark_of (Some kind) single = Ok (lexeme_of kind 2)
mark_of None (Some kind) = Ok (lexeme_of kind 1)
mark_of None None = Err BadByte

-- a mark, or nothing
abbrev pub mark_at : ℕ → List ℕ → Result Front Stop
mark_at first [] = mark_of None (single_mark first)
mark_at first (second ∷ bytes) = mark_of (double_mark first second) (single_mark first)

-- what stands at the front of the text, by the sort of its first byte
abbrev pub front_in : Class → ℕ → List ℕ → Result Front Stop
front_in Blank first rest = Ok (gap_of 1)
front_in Letter first rest =
    let len = word_len (first ∷ rest) in Ok (lexeme_of (kind_of_word (take len (first ∷ rest))) len)
front_in Digit first rest = Ok (amount_at (first ∷ rest))
front_in Sign first rest = after_sign rest
front_in Quote first rest = after_quote rest
front_in Hash first rest = after_hash rest
front_in Slash first rest = after_slash rest
front_in Other first rest = mark_at first rest

unfoldable pub front_of : List ℕ → Result Front Stop
front_of [] = Err BadByte
front_of (first ∷ rest) = front_in (class_of first) first rest
