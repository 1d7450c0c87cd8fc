-- The fields of an object that are set, and how they are found.
use Rattle.std.specs.Prelude.{◌≡◌, ℕ, Bool, false, ◌&&◌, not, List, [], ◌∷◌, Option, None, is_some, slice_get, if◌then◌else◌}
use Rattle.std.specs.List.{list_any, position_from}
use Rattle.std.specs.Option.{option_and_then}
use Rattle.std.specs.Str.{bytes_eq}
use Rattle.eu_index.specs.Index.{HasFirsts, Noted, noted_number, with_noted}
use Rattle.nddl_construction.specs.declared.made.Datum.{Datum}
use Rattle.nddl_construction.specs.declared.made.FieldValue.{FieldValue}

-- the value to which the field of this name is set
abbrev pub field_datum : List ℕ → List FieldValue → Option Datum
field_datum name [] = None
field_datum name (field ∷ more) = if bytes_eq name field.name then field.value else field_datum name more

abbrev pub is_set : List ℕ → List FieldValue → Bool
is_set name fields = list_any (λ field. bytes_eq name field.name) fields

-- the field of this name is set, and only once
abbrev pub is_set_once : List ℕ → List FieldValue → Bool
is_set_once name [] = false
is_set_once name (field ∷ more) = if bytes_eq name field.name then not (is_set name more) else is_set_once name more

-- ---- indexes

-- the place of the first field of this name
abbrev pub first_place : List ℕ → List FieldValue → Option ℕ
first_place name fields = position_from (λ field. bytes_eq name field.name) 0 fields

-- the value of the field at this place, if there is one
abbrev pub datum_placed : List FieldValue → Option ℕ → Option Datum
datum_placed fields place = option_and_then (λ p. option_and_then (λ (field : FieldValue). field.value) (slice_get fields p)) place

-- the index has of each name the place of the first field of this name
abbrev pub ArePlaces : List FieldValue → Noted → Type 0
ArePlaces = HasFirsts (λ name (field : FieldValue). bytes_eq name field.name)

-- the index has the names that are set again
abbrev pub AreRepeated : List FieldValue → Noted → Type 0
AreRepeated fields repeated = (name : List ℕ)
    → is_some (noted_number repeated name) ≡ (is_set name fields && not (is_set_once name fields))

-- the names that are set again, with one more that is set at this place
abbrev pub repeated_noted : Noted → Noted → List ℕ → ℕ → Noted
repeated_noted places repeated name place = if is_some (noted_number places name) then with_noted repeated name place else repeated

-- a field of this name is set at this place
abbrev pub NotesSet : List ℕ → ℕ → Noted → Noted → Noted → Noted → Type 0
NotesSet name place old_places old_repeated new_places new_repeated =
    (new_places ≡ with_noted old_places name place) × (new_repeated ≡ repeated_noted old_places old_repeated name place)
