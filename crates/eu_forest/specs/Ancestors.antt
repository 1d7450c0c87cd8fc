-- What things lead up to.
use Rattle.std.specs.Prelude.{ℕ, zero, suc, List, [], ◌∷◌, Option, Some, None, slice_get, length}
use Rattle.std.specs.Option.{option_and_then}

-- what the thing of this number stands under
abbrev pub parent_in : List (Option ℕ) → ℕ → Option ℕ
parent_in parents number = option_and_then (λ parent. parent) (slice_get parents number)

abbrev pub line_more : (Option ℕ → List ℕ) → List (Option ℕ) → Option ℕ → List ℕ
line_more rest parents None = []
line_more rest parents (Some number) = number ∷ rest (parent_in parents number)

-- a thing, if there is one, and what it leads up to, as many levels up
abbrev pub line_from : ℕ → List (Option ℕ) → Option ℕ → List ℕ
line_from zero parents next = []
line_from (suc levels) parents next = line_more (line_from levels parents) parents next

-- A thing and what it leads up to, in order. What stands on no circle leads up to fewer things than there are.
abbrev pub ancestry : List (Option ℕ) → ℕ → List ℕ
ancestry parents number = line_from (length parents) parents (Some number)
