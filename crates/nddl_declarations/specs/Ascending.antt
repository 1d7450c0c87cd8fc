-- Numbers in ascending order.
use Rattle.std.specs.Prelude.{ℤ, List, [], ◌∷◌, int_lt, if◌then◌else◌}

-- the number in its place among ascending ones, unless it is one of them
abbrev pub with_placed : ℤ → List ℤ → List ℤ
with_placed number [] = number ∷ []
with_placed number (least ∷ more) =
    if int_lt number least then number ∷ (least ∷ more)
    else (if int_lt least number then least ∷ with_placed number more else least ∷ more)

-- the numbers of a list in ascending order, each once
unfoldable pub ascending_of : List ℤ → List ℤ
ascending_of [] = []
ascending_of (number ∷ more) = with_placed number (ascending_of more)
