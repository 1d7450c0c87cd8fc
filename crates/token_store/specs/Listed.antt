-- Numbers that are listed under others.
use Rattle.std.specs.Prelude.{ℕ, ◌-◌, ◌==◌, nat_eq, if◌then◌else◌, List, [], ◌∷◌, ◌++◌, length, take, Option, Some, None, Vec}
use Rattle.std.specs.Global.{Global}
use Rattle.std.specs.Map.{lookup}
use Rattle.token_store.specs.declared.lists.Lists.{Lists}

-- the numbers in the list, where there is one
abbrev pub numbers_in : Option (Vec ℕ Global) → List ℕ
numbers_in None = []
numbers_in (Some list) = list.items

-- the numbers that are listed under this one
abbrev pub listed_under : List (ℕ × Vec ℕ Global) → ℕ → List ℕ
listed_under lists under = numbers_in (lookup (nat_eq under) lists)

-- what is listed under each number
abbrev pub lists_of : Lists → ℕ → List ℕ
lists_of lists = listed_under lists.lists.entries

-- one number more under this one
abbrev pub with_one_more : (ℕ → List ℕ) → ℕ → ℕ → ℕ → List ℕ
with_one_more lists under number = λ other. if under == other then lists other ++ number ∷ [] else lists other

-- the last number under this one is left out
abbrev pub without_last : (ℕ → List ℕ) → ℕ → ℕ → List ℕ
without_last lists under = λ other. if under == other then take (length (lists other) - 1) (lists other) else lists other

-- the subgoals of each token, with one more of this parent, if there is a parent
abbrev pub with_child : (ℕ → List ℕ) → Option ℕ → ℕ → ℕ → List ℕ
with_child children None place = children
with_child children (Some parent) place = with_one_more children parent place
