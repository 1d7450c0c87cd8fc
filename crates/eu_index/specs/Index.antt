-- Names with the numbers under which they were noted.
use Rattle.std.specs.Prelude.{◌≡◌, ℕ, Bool, List, [], ◌∷◌, ◌++◌, Option, Some, None, if◌then◌else◌, is_some}
use Rattle.std.specs.List.{position_from}
use Rattle.std.specs.Map.{lookup}
use Rattle.std.specs.Option.{option_or}
use Rattle.std.specs.Str.{bytes_eq}

-- names in the order in which they were noted
abbrev pub Noted : Type 0
Noted = List (List ℕ × ℕ)

-- the number of the name
abbrev pub noted_number : Noted → List ℕ → Option ℕ
noted_number noted name = lookup (λ other. bytes_eq name other) noted

-- the names with one more, unless it was noted before
abbrev pub with_noted : Noted → List ℕ → ℕ → Noted
with_noted old name number = if is_some (noted_number old name) then old else old ++ (name, number) ∷ []

-- ---- things with names, each with its number

-- the index has of each name the number of the first of these that has it
abbrev pub HasFirsts : {X : Type 0} → (List ℕ → X → Bool) → List X → Noted → Type 0
HasFirsts has_name some noted = (name : List ℕ) → noted_number noted name ≡ position_from (has_name name) 0 some

-- what the index has of each name is what it had, or else the number of this one, if it has the name
abbrev pub NotesFirst : {X : Type 0} → (List ℕ → X → Bool) → ℕ → X → Noted → Noted → Type 0
NotesFirst has_name number x old new = (name : List ℕ)
    → noted_number new name ≡ option_or (noted_number old name) (if has_name name x then Some number else None)
