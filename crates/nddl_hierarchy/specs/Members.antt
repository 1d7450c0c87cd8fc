-- The fields and predicates of classes by their names.
use Rattle.std.specs.Prelude.{◌≡◌, ℕ, Bool, false, List, [], ◌∷◌, Option, Some, None, slice_get, if◌then◌else◌}
use Rattle.std.specs.List.{AllZip, filter_map, position_from}
use Rattle.std.specs.Option.{option_and_then, option_map_or}
use Rattle.std.specs.Str.{bytes_eq}
use Rattle.nddl_ast.specs.declared.declaration.Decl.{Decl}
use Rattle.nddl_ast.specs.declared.declaration.Member.{Member}
use Rattle.nddl_ast.specs.declared.declaration.Member.TheVariants as members
use Rattle.nddl_ast.specs.declared.declaration.Typed.{Typed}
use Rattle.eu_index.specs.Index.{HasFirsts, NotesFirst, noted_number}
use Rattle.nddl_hierarchy.specs.declared.members.Places.{Places}
use Rattle.nddl_hierarchy.specs.Decls.{decl_members}

-- the field that a member is
abbrev pub member_field : Member → Option Typed
member_field (members.Field typed) = Some typed
member_field member = None

-- the first of these of this name
abbrev pub named_typed : List ℕ → List Typed → Option Typed
named_typed name [] = None
named_typed name (typed ∷ more) = if bytes_eq name typed.name.text then Some typed else named_typed name more

-- the field of this name of the declaration of this number
abbrev pub field_declared : List Decl → ℕ → List ℕ → Option Typed
field_declared program number name =
    option_and_then (λ decl. named_typed name (filter_map member_field (decl_members decl))) (slice_get program number)

-- the member of the declaration of this number at this place, if it is a field
abbrev pub field_at : List Decl → ℕ → ℕ → Option Typed
field_at program number place =
    option_and_then (λ decl. option_and_then member_field (slice_get (decl_members decl) place)) (slice_get program number)

-- the member is a field of this name
abbrev pub is_field_named : List ℕ → Member → Bool
is_field_named name member = option_map_or (λ (typed : Typed). bytes_eq name typed.name.text) (member_field member) false

-- the member is a predicate of this name
abbrev pub is_predicate_named : List ℕ → Member → Bool
is_predicate_named name (members.Predicate at other parts) = bytes_eq name other.text
is_predicate_named name member = false

-- the place of the predicate of this name among the members of the declaration of this number
abbrev pub predicate_declared : List Decl → ℕ → List ℕ → Option ℕ
predicate_declared program number name =
    option_and_then (λ decl. position_from (is_predicate_named name) 0 (decl_members decl)) (slice_get program number)

-- ---- indexes of members

-- what a declaration has with these members: what is no class has none, and needs no index
abbrev pub HasMembers : List Member → Option Places → Type 0
HasMembers some None = some ≡ []
HasMembers some (Some places) = HasFirsts is_field_named some places.fields × HasFirsts is_predicate_named some places.predicates

-- each declaration has that
abbrev pub ArePlaces : List Decl → List (Option Places) → Type 0
ArePlaces program places = AllZip (λ decl. HasMembers (decl_members decl)) program places

-- the places of the members of the declaration of this number
abbrev pub places_at : List (Option Places) → ℕ → Option Places
places_at places number = option_and_then (λ found. found) (slice_get places number)

-- the place of the field of this name
abbrev pub field_place : List (Option Places) → ℕ → List ℕ → Option ℕ
field_place places number name = option_and_then (λ found. noted_number found.fields name) (places_at places number)

-- and that of the predicate
abbrev pub predicate_place : List (Option Places) → ℕ → List ℕ → Option ℕ
predicate_place places number name = option_and_then (λ found. noted_number found.predicates name) (places_at places number)

-- a member is noted
abbrev pub NotesMember : ℕ → Member → Places → Places → Type 0
NotesMember place member old new =
    NotesFirst is_field_named place member old.fields new.fields × NotesFirst is_predicate_named place member old.predicates new.predicates
