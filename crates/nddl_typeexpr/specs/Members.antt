-- Distinct numbers.
use Rattle.std.specs.Prelude.{ℤ, Bool, List, [], ◌∷◌, ◌++◌, if◌then◌else◌}
use Rattle.std.specs.List.{list_any}
use Rattle.std.specs.Ordering.{int_eq}

-- the number is one of these
abbrev pub has_number : List ℤ → ℤ → Bool
has_number numbers number = list_any (int_eq number) numbers

-- the numbers with one more, unless it is one of them
abbrev pub with_number : List ℤ → ℤ → List ℤ
with_number numbers number = if has_number numbers number then numbers else numbers ++ number ∷ []

-- these numbers, and those of a list that aren't among them, each once
abbrev pub distinct_from : List ℤ → List ℤ → List ℤ
distinct_from numbers [] = numbers
distinct_from numbers (number ∷ more) = distinct_from (with_number numbers number) more
