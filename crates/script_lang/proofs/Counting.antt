-- What `parse` reads of a number's text.
use Rattle.std.proofs.Common.{◌≡◌, ℕ, ◌<◌, ◌^◌, List, Result, Ok, sym, ◌∙◌, subst, arith}
use Rattle.std.specs.Fmt.{decimal}
use Rattle.std.specs.Str.{IsUtf8, IsAscii}
use Rattle.std.specs.Str.Parse.{ParsesUnsigned}
use Rattle.std.proofs.lemmas.Fmt.{parse-decimal, IsAscii-decimal}
use Rattle.std.proofs.lemmas.Str.{IsUtf8-from_ascii}

-- it is the number
pub parsed_is : {E : Type 0} (number : ℕ) (word text : List ℕ) (r : Result ℕ E) → number < 2 ^ 32 → word ≡ decimal number → text ≡ word → ParsesUnsigned 32 10 text r → r ≡ Ok number
parsed_is number word text r small same kept parses = parse-decimal 32 number text r small (omega arith) (kept ∙ same) parses

-- and it is text
pub number_is_text : (number : ℕ) (word : List ℕ) → number < 2 ^ 32 → word ≡ decimal number → IsUtf8 word
number_is_text number word small same = IsUtf8-from_ascii word (subst IsAscii (sym same) (IsAscii-decimal number (omega arith)))
