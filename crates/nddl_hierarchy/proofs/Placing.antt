-- Members by the places where they stand first.
use Rattle.std.proofs.Common.{◌≡◌, ℕ, zero, suc, Bool, true, false, cond, if◌then◌else◌, List, [], ◌∷◌, ◌++◌, Option, Some, None, refl, sym, ap, ◌∙◌}
use Rattle.std.specs.Prelude.{slice_get}
use Rattle.std.specs.List.{filter_map, position_from}
use Rattle.std.specs.Option.{option_and_then, option_map, option_or}
use Rattle.std.specs.Str.{bytes_eq}
use Rattle.nddl_ast.specs.declared.declaration.Decl.{Decl}
use Rattle.nddl_ast.specs.declared.declaration.Member.{Member}
use Rattle.nddl_ast.specs.declared.declaration.Member.TheVariants as members
use Rattle.nddl_ast.specs.declared.declaration.PredicatePart.{PredicatePart}
use Rattle.nddl_ast.specs.declared.declaration.Typed.{Typed}
use Rattle.nddl_ast.specs.declared.name.Name.{Name}
use Rattle.eu_index.specs.Index.{Noted, NotesFirst, noted_number, with_noted}
use Rattle.nddl_symbols.proofs.Firsts.{position_later}
use Rattle.eu_index.proofs.Indexes.{noted_with}
use Rattle.nddl_hierarchy.specs.Decls.{decl_members}
use Rattle.nddl_hierarchy.specs.declared.members.Places.{Places}
use Rattle.nddl_hierarchy.specs.Members.{ArePlaces, HasMembers, field_at, field_declared, field_place, is_field_named, is_predicate_named, member_field, named_typed, predicate_declared, predicate_place}

-- ---- making an index

or_none : (o : Option ℕ) → o ≡ option_or o None
or_none None = refl
or_none (Some place) = refl

-- the name is noted, if it is that of the member
noted_here : (named : List ℕ → Member → Bool) (place : ℕ) (member : Member) (word : List ℕ) (old new : Noted)
    → ((name : List ℕ) → named name member ≡ bytes_eq name word) → new ≡ with_noted old word place → NotesFirst named place member old new
noted_here named place member word old new is noted = λ name.
    ap (λ n. noted_number n name) noted
    ∙ (noted_with old word name place
    ∙ ap (λ b. option_or (noted_number old name) (if b then Some place else None)) (sym (is name)))

-- and else none
noted_not : (named : List ℕ → Member → Bool) (place : ℕ) (member : Member) (noted : Noted) → ((name : List ℕ) → named name member ≡ false)
    → NotesFirst named place member noted noted
noted_not named place member noted is = λ name.
    or_none (noted_number noted name) ∙ ap (λ b. option_or (noted_number noted name) (if b then Some place else None)) (sym (is name))

-- a field is noted
pub field_noted : (place : ℕ) (member : Member) (typed : Typed) (old new other : Noted) → member ≡ members.Field typed
    → new ≡ with_noted old typed.name.text place → NotesFirst is_field_named place member old new × NotesFirst is_predicate_named place member other other
field_noted place member typed old new other is noted = (
  noted_here is_field_named place member typed.name.text old new (λ name. ap (is_field_named name) is) noted,
  noted_not is_predicate_named place member other (λ name. ap (is_predicate_named name) is),
)

-- a predicate is
pub predicate_noted : (place : ℕ) (member : Member) (at : ℕ) (word : Name) (parts : List PredicatePart) (old new other : Noted)
    → member ≡ members.Predicate at word parts → new ≡ with_noted old word.text place
    → NotesFirst is_field_named place member other other × NotesFirst is_predicate_named place member old new
predicate_noted place member at word parts old new other is noted = (
  noted_not is_field_named place member other (λ name. ap (is_field_named name) is),
  noted_here is_predicate_named place member word.text old new (λ name. ap (is_predicate_named name) is) noted,
)

-- one declaration more has its places
pub places_more : (program : List Decl) (places : List (Option Places)) (decl : Decl) (found : Option Places) → ArePlaces program places
    → HasMembers (decl_members decl) found → ArePlaces (program ++ decl ∷ []) (places ++ found ∷ [])
places_more [] [] decl found are has = (has, tt)
places_more [] (other ∷ places) decl found are has = absurd are
places_more (first ∷ program) [] decl found are has = absurd are
places_more (first ∷ program) (other ∷ places) decl found are has = (are.0, places_more program places decl found are.1 has)

-- ---- finding a field

-- the field at this place
abbrev at : List Member → ℕ → Option Typed
at some place = option_and_then member_field (slice_get some place)

behind : (member : Member) (more : List Member) (o : Option ℕ)
    → option_and_then (at (member ∷ more)) (option_map suc o) ≡ option_and_then (at more) o
behind member more None = refl
behind member more (Some place) = refl

passed : (name : List ℕ) (member : Member) (more : List Member)
    → option_and_then (at more) (position_from (is_field_named name) 0 more) ≡ named_typed name (filter_map member_field more)
    → option_and_then (at (member ∷ more)) (position_from (is_field_named name) 1 more) ≡ named_typed name (filter_map member_field more)
passed name member more rest =
    ap (option_and_then (at (member ∷ more))) (position_later (is_field_named name) 0 more)
    ∙ (behind member more (position_from (is_field_named name) 0 more) ∙ rest)

-- the member at the first place of a field of this name is the first such field
first_named : (name : List ℕ) (some : List Member)
    → option_and_then (at some) (position_from (is_field_named name) 0 some) ≡ named_typed name (filter_map member_field some)
first_named name [] = refl
first_named name (members.Field typed ∷ more) =
    by (bytes_eq name typed.name.text) (passed name (members.Field typed) more (first_named name more))
  where
    by : (b : Bool)
        → option_and_then (at (members.Field typed ∷ more)) (position_from (is_field_named name) 1 more) ≡ named_typed name (filter_map member_field more)
        → option_and_then (at (members.Field typed ∷ more)) (cond b (Some 0) (position_from (is_field_named name) 1 more))
        ≡ (if b then Some typed else named_typed name (filter_map member_field more))
    by true rest = refl
    by false rest = rest
first_named name (members.Predicate at_place word parts ∷ more) =
    passed name (members.Predicate at_place word parts) more (first_named name more)
first_named name (members.Constructor word formals sets ∷ more) =
    passed name (members.Constructor word formals sets) more (first_named name more)

-- the field at the place that the index has of the name is the one of this name
found : (program : List Decl) (places : List (Option Places)) (number : ℕ) (name : List ℕ) → ArePlaces program places
    → option_and_then (field_at program number) (field_place places number name) ≡ field_declared program number name
found [] [] number name are = refl
found [] (slot ∷ places) number name are = absurd are
found (decl ∷ program) [] number name are = absurd are
found (decl ∷ program) (None ∷ places) zero name are = sym (ap (λ some. named_typed name (filter_map member_field some)) are.0)
found (decl ∷ program) (Some here ∷ places) zero name are =
    ap (option_and_then (at (decl_members decl))) (are.0.0 name) ∙ first_named name (decl_members decl)
found (decl ∷ program) (slot ∷ places) (suc number) name are = found program places number name are.1

pub found_at : (program : List Decl) (places : List (Option Places)) (number place : ℕ) (name : List ℕ) → ArePlaces program places
    → Some place ≡ field_place places number name → field_at program number place ≡ field_declared program number name
found_at program places number place name are is = ap (option_and_then (field_at program number)) is ∙ found program places number name are

pub found_nowhere : (program : List Decl) (places : List (Option Places)) (number : ℕ) (name : List ℕ) → ArePlaces program places
    → None ≡ field_place places number name → None ≡ field_declared program number name
found_nowhere program places number name are is = ap (option_and_then (field_at program number)) is ∙ found program places number name are

-- and so is the place that it has of a predicate
pub predicate_found : (program : List Decl) (places : List (Option Places)) (number : ℕ) (name : List ℕ) → ArePlaces program places
    → predicate_place places number name ≡ predicate_declared program number name
predicate_found [] [] number name are = refl
predicate_found [] (slot ∷ places) number name are = absurd are
predicate_found (decl ∷ program) [] number name are = absurd are
predicate_found (decl ∷ program) (None ∷ places) zero name are = sym (ap (position_from (is_predicate_named name) 0) are.0)
predicate_found (decl ∷ program) (Some here ∷ places) zero name are = are.0.1 name
predicate_found (decl ∷ program) (slot ∷ places) (suc number) name are = predicate_found program places number name are.1
