-- What the types of fields mean, as far as it is kept.
use Rattle.std.specs.Prelude.{◌≡◌, ℕ, List, Option, Some, length, slice_get}
use Rattle.std.specs.Option.{option_and_then}
use Rattle.nddl_ast.specs.declared.declaration.Typed.{Typed}
use Rattle.eu_index.specs.Index.{Noted, noted_number, with_noted}
use Rattle.nddl_typeexpr.specs.declared.kind.TypeMeaning.{TypeMeaning}
use Rattle.nddl_typeexpr.specs.Types.{type_meaning}
use Rattle.nddl_hierarchy.specs.Facts.{Facts}
use Rattle.nddl_hierarchy.specs.Members.{field_declared}
use Rattle.nddl_construction.specs.declared.kept.FieldTypes.{FieldTypes}

-- the place of what is kept of the field of this name of the declaration of this number
abbrev pub kept_place : List (Option Noted) → ℕ → List ℕ → Option ℕ
kept_place places number name =
    option_and_then (λ noted. noted_number noted name) (option_and_then (λ found. found) (slice_get places number))

-- what is kept of it
abbrev pub meaning_kept : FieldTypes → ℕ → List ℕ → Option (Option TypeMeaning)
meaning_kept types number name =
    option_and_then (slice_get types.meanings.items) (kept_place types.places.items number name)

-- what stands at this place is what the type of the field means
abbrev pub MeansAt : Facts → List (Option TypeMeaning) → ℕ → List ℕ → ℕ → Type 0
MeansAt facts meanings number name place =
    (typed : Typed) → field_declared facts.program number name ≡ Some typed
    → slice_get meanings place ≡ Some (type_meaning facts.names facts.known typed.declared)

-- so it is of all fields of the declaration of this number of which these are the places
abbrev pub AreKept : Facts → List (Option TypeMeaning) → ℕ → Noted → Type 0
AreKept facts meanings number noted =
    (name : List ℕ) (place : ℕ) → noted_number noted name ≡ Some place → MeansAt facts meanings number name place

-- and of all declarations
abbrev pub AreFieldTypes : Facts → FieldTypes → Type 0
AreFieldTypes facts types =
    (number : ℕ) (noted : Noted) → slice_get types.places.items number ≡ Some (Some noted)
    → AreKept facts types.meanings.items number noted

-- ---- keeping more

-- what was at a place is still there
abbrev pub GoOn : List (Option TypeMeaning) → List (Option TypeMeaning) → Type 0
GoOn old new = (place : ℕ) (meaning : Option TypeMeaning) → slice_get old place ≡ Some meaning → slice_get new place ≡ Some meaning

-- fields of the declaration are kept besides
abbrev pub KeepField : Facts → ℕ → Noted → List (Option TypeMeaning) → Noted → List (Option TypeMeaning) → Type 0
KeepField facts number old_noted old new_noted new =
    GoOn old new × (AreKept facts old number old_noted → AreKept facts new number new_noted)

-- and of all of them these are the places, if there are any
abbrev pub KeepFound : Facts → ℕ → Option Noted → List (Option TypeMeaning) → List (Option TypeMeaning) → Type 0
KeepFound facts number found old new =
    GoOn old new × ((noted : Noted) → found ≡ Some noted → AreKept facts new number noted)

-- the places with one more, behind these
abbrev pub with_field : Noted → List ℕ → List (Option TypeMeaning) → Noted
with_field noted name meanings = with_noted noted name (length meanings)
