-- How many fields paths read.
use Rattle.std.proofs.Common.{◌≡◌, ℕ, ◌+◌, ◌-◌, ◌≤◌, ℤ, List, [], ◌∷◌, length, refl, ap, subst, arith}
use Rattle.std.specs.Prelude.{◌==◌, Bool, true, false, Option, Some, None, slice_get, if◌then◌else◌}
use Rattle.std.specs.Option.{option_and_then, option_map_or, option_or}
use Rattle.eu_name.specs.declared.name.Part.{Part}
use Rattle.model_core.specs.declared.item.Term.{Term}
use Rattle.model_core.specs.declared.item.Term.TheVariants as terms
use Rattle.model_core.specs.declared.variable.ValueKind.{ValueKind}
use Rattle.nddl_ast.specs.declared.name.Name.{Name}
use Rattle.nddl_ast.specs.declared.name.Path.{Path}
use Rattle.nddl_terms.specs.declared.tree.Meaning.{Meaning}
use Rattle.nddl_terms.specs.declared.tree.Meaning.TheVariants as meanings
use Rattle.nddl_terms.specs.declared.growth.Growth.{Growth}
use Rattle.nddl_terms.specs.declared.lexicon.Attribute.{Attribute}
use Rattle.nddl_terms.specs.declared.stands.Made.{Made}
use Rattle.nddl_terms.specs.declared.stands.Stand.{Stand}
use Rattle.nddl_terms.specs.declared.stands.Stand.TheVariants.{Value, Slot, Root, Class, Nothing}
use Rattle.nddl_terms.specs.Growth.{with_access}
use Rattle.nddl_terms.specs.Lexicon.{attribute_class, attribute_kind, attribute_number, part_called, shape_fields}
use Rattle.nddl_terms.specs.Names.{name_read_at}
use Rattle.nddl_terms.specs.Paths.{Reached, known_value, numbered_field, part_stand, reached, read_field, next_stand, rest_stand}
use Rattle.nddl_terms.specs.Readings.{Readings}
use Rattle.nddl_terms.specs.Stands.{declared_stand, file_stand, first_stand, latest_stand, meaning_stand, stand_if_at, stand_or_nothing}
use Rattle.nddl_unroll.specs.Meant.{IsSlotStand}
use Rattle.nddl_unroll.specs.Reads.{file_reads, front_reads, meaning_reads}
use Rattle.nddl_unroll.proofs.Extras.{Adds, EachMade, IsKnownStand, Sound, Within, adds_access, adds_any, adds_then, adds_within, extra_and, extra_reads}

-- of so many names behind what stands for this, how many read a field of a variable at most
abbrev pub stand_reads : Stand → ℕ → ℕ
stand_reads (Value (terms.Lit value) kind class) count = 0
stand_reads (Value term kind class) count = count
stand_reads (Slot number pred) count = count - 1
stand_reads (Root number pred) count = count - 1
stand_reads stand count = 0

pub reads_within : (one other : ℕ) → one ≤ other → Within (extra_reads one) (extra_reads other)
reads_within one other less = record { slots = omega arith; locals = less; items = less; guards = omega arith }

-- one name of so many leads on: it reads at most so many fields, and those behind it at most the rest
record LeadsOn (bound count : ℕ) (growth : Growth) (next : Reached) : Type 0 where
  first : ℕ
  adds : Adds (extra_reads first) growth next.growth
  rest : first + stand_reads next.stand (count - 1) ≤ bound

leads_nowhere : (bound count : ℕ) (growth : Growth) → LeadsOn bound count growth (reached Nothing growth)
leads_nowhere bound count growth = record { first = 0; adds = adds_any (extra_reads 0) growth; rest = omega arith }

-- what a known object has in a field is known
pub known_field : (found : Option ℤ) (kind : ValueKind) (class count : ℕ)
    → stand_reads (option_map_or (λ content. Value (terms.Lit content) kind class) found Nothing) count ≡ 0
known_field None kind class count = refl
known_field (Some content) kind class count = refl

known_leads : (reading : Readings) (value : ℤ) (fields : List Attribute) (count : ℕ) (growth : Growth) (found : Option ℕ)
    → LeadsOn 0 count growth (option_map_or (λ number. numbered_field reading.objects (terms.Lit value) fields number growth) found (reached Nothing growth))
known_leads reading value fields count growth None = leads_nowhere 0 count growth
known_leads reading value fields count growth (Some number) =
    let none = known_field (known_value reading.objects value number) (attribute_kind fields number) (attribute_class fields number) (count - 1) in
    record { first = 0; adds = adds_any (extra_reads 0) growth; rest = omega (arith, none) }

attribute_leads : (object : Term) (number count : ℕ) (growth : Growth) (found : Option Attribute) → 1 ≤ count
    → LeadsOn count count growth (option_map_or (λ attribute. reached (Value (terms.Local (length growth.locals)) attribute.shape.kind attribute.shape.class)
    (with_access object number attribute.shape growth)) found (reached Nothing growth))
attribute_leads object number count growth None some = leads_nowhere count count growth
attribute_leads object number count growth (Some attribute) some =
    record { first = 1; adds = adds_access object number attribute.shape growth; rest = omega (arith, some) }

read_leads : (object : Term) (fields : List Attribute) (count : ℕ) (growth : Growth) (found : Option ℕ) → 1 ≤ count
    → LeadsOn count count growth (option_map_or (λ number. read_field object fields number growth) found (reached Nothing growth))
read_leads object fields count growth None some = leads_nowhere count count growth
read_leads object fields count growth (Some number) some = attribute_leads object number count growth (slice_get fields number) some

slot_leads : (reading : Readings) (number pred count : ℕ) (growth : Growth) (found : Option Part)
    → LeadsOn (count - 1) count growth (reached (option_map_or (part_stand reading (Slot number pred)) found Nothing) growth)
slot_leads reading number pred count growth None = leads_nowhere (count - 1) count growth
slot_leads reading number pred count growth (Some part) =
    record { first = 0; adds = adds_any (extra_reads 0) growth; rest = omega arith }

root_leads : (reading : Readings) (number pred count : ℕ) (growth : Growth) (found : Option Part)
    → LeadsOn (count - 1) count growth (reached (option_map_or (part_stand reading (Root number pred)) found Nothing) growth)
root_leads reading number pred count growth None = leads_nowhere (count - 1) count growth
root_leads reading number pred count growth (Some part) =
    record { first = 0; adds = adds_any (extra_reads 0) growth; rest = omega arith }

next_leads : (reading : Readings) (here : Stand) (name : Name) (count : ℕ) (growth : Growth) → 1 ≤ count
    → LeadsOn (stand_reads here count) count growth (next_stand reading here name growth)
next_leads reading (Value (terms.Lit value) kind class) name count growth some =
    known_leads reading value (shape_fields reading.lexicon class) count growth (attribute_number name.text (shape_fields reading.lexicon class))
next_leads reading (Value (terms.Here part) kind class) name count growth some =
    read_leads (terms.Here part) (shape_fields reading.lexicon class) count growth (attribute_number name.text (shape_fields reading.lexicon class)) some
next_leads reading (Value (terms.Slot number part) kind class) name count growth some =
    read_leads (terms.Slot number part) (shape_fields reading.lexicon class) count growth (attribute_number name.text (shape_fields reading.lexicon class)) some
next_leads reading (Value (terms.Local number) kind class) name count growth some =
    read_leads (terms.Local number) (shape_fields reading.lexicon class) count growth (attribute_number name.text (shape_fields reading.lexicon class)) some
next_leads reading (Value (terms.Global number) kind class) name count growth some =
    read_leads (terms.Global number) (shape_fields reading.lexicon class) count growth (attribute_number name.text (shape_fields reading.lexicon class)) some
next_leads reading (Value (terms.Root number part) kind class) name count growth some =
    read_leads (terms.Root number part) (shape_fields reading.lexicon class) count growth (attribute_number name.text (shape_fields reading.lexicon class)) some
next_leads reading (Slot number pred) name count growth some =
    slot_leads reading number pred count growth (part_called reading.lexicon pred name.text)
next_leads reading (Root number pred) name count growth some =
    root_leads reading number pred count growth (part_called reading.lexicon pred name.text)
next_leads reading (Class class) name count growth some = leads_nowhere 0 count growth
next_leads reading Nothing name count growth some = leads_nowhere 0 count growth

-- the names read at most so many fields
pub rest_adds : (reading : Readings) (here : Stand) (names : List Name) (count : ℕ) (growth : Growth) → length names ≤ count
    → Adds (extra_reads (stand_reads here count)) growth (rest_stand reading here names growth).growth
rest_adds reading here [] count growth within = adds_any (extra_reads (stand_reads here count)) growth
rest_adds reading here (name ∷ more) count growth within =
    let some : 1 ≤ count = omega (arith, within) in
    let fewer : length more ≤ count - 1 = omega (arith, within) in
    let next = next_stand reading here name growth in
    let leads = next_leads reading here name count growth some in
    let left = stand_reads next.stand (count - 1) in
    adds_within (extra_and (extra_reads leads.first) (extra_reads left)) (extra_reads (stand_reads here count))
    growth (rest_stand reading next.stand more next.growth).growth
    (record { slots = omega arith; locals = leads.rest; items = leads.rest; guards = omega arith })
    (adds_then (extra_reads leads.first) (extra_reads left) growth next.growth (rest_stand reading next.stand more next.growth).growth
    leads.adds (rest_adds reading next.stand more (count - 1) next.growth fewer))

-- ---- first names

chosen_one : (P : Stand → Type 0) (later here : Option Stand) (stand : Stand) → ((s : Stand) → later ≡ Some s → P s)
    → ((s : Stand) → here ≡ Some s → P s) → option_or later here ≡ Some stand → P stand
chosen_one P (Some found) here stand from_later from_here is = from_later stand is
chosen_one P None here stand from_later from_here is = from_here stand is

if_here : (P : Stand → Type 0) (so : Bool) (made stand : Stand) → P made → (if so then Some made else None) ≡ Some stand → P stand
if_here P true made stand has is = subst P (ap (λ (found : Option Stand). option_map_or (λ s. s) found made) is) has
if_here P false made stand has is = absurd (cc)

-- what is found is one of those that were made
latest_is : (P : Stand → Type 0) (at : ℕ) (some : List Made) (stand : Stand) → EachMade P some → latest_stand at some ≡ Some stand → P stand
latest_is P at [] stand each is = absurd (cc)
latest_is P at (made ∷ more) stand each is =
    chosen_one P (latest_stand at more) (stand_if_at at made) stand (λ s there. latest_is P at more s each.1 there)
    (λ s there. if_here P (made.at == at) made.stand s each.0 there) is

placed_is : (P : Stand → Type 0) (place : Option ℕ) (some : List Made) (stand : Stand) → EachMade P some
    → option_and_then (λ at. latest_stand at some) place ≡ Some stand → P stand
placed_is P None some stand each is = absurd (cc)
placed_is P (Some at) some stand each is = latest_is P at some stand each is

pub declared_is : (P : Stand → Type 0) (places : List ℕ) (number : ℕ) (some : List Made) (stand : Stand) → EachMade P some
    → declared_stand places number some ≡ Some stand → P stand
declared_is P places number some stand each is = placed_is P (slice_get places number) some stand each is

found_within : (P : Stand → Type 0) (bound count : ℕ) (found : Option Stand) → ((s : Stand) → found ≡ Some s → P s)
    → ((s : Stand) → P s → stand_reads s count ≤ bound) → stand_reads (stand_or_nothing found) count ≤ bound
found_within P bound count None is few = omega arith
found_within P bound count (Some stand) is few = few stand (is stand refl)

known_within : (count : ℕ) (stand : Stand) → IsKnownStand stand → stand_reads stand count ≤ 0
known_within count (Value (terms.Lit value) kind class) is = omega arith
known_within count stand is = absurd is

slot_within : (count : ℕ) (stand : Stand) → IsSlotStand stand → stand_reads stand count ≤ count - 1
slot_within count (Slot number pred) is = omega arith
slot_within count stand is = absurd is

any_within : (count : ℕ) (stand : Stand) → stand_reads stand count ≤ count
any_within count (Value (terms.Lit value) kind class) = omega arith
any_within count (Value term kind class) = omega arith
any_within count stand = omega arith

file_within : (found : Option Stand) (count : ℕ) → stand_reads (stand_or_nothing found) count ≤ file_reads found count
file_within None count = omega arith
file_within (Some (Value (terms.Lit value) kind class)) count = omega arith
file_within (Some (Value term kind class)) count = omega arith
file_within (Some stand) count = omega arith

-- what stands for a name reads no more than is counted of what it means
meaning_within : (reading : Readings) (turns : List Made) (growth : Growth) (found : Option Meaning) (count : ℕ)
    → Sound growth → EachMade IsKnownStand turns
    → stand_reads (stand_or_nothing (option_and_then (meaning_stand reading turns growth) found)) count ≤ meaning_reads reading.lexicon found count
meaning_within reading turns growth None count sound known = omega arith
meaning_within reading turns growth (Some (meanings.Turn number)) count sound known =
    found_within IsKnownStand 0 count (declared_stand reading.places.turns number turns)
    (λ s there. declared_is IsKnownStand reading.places.turns number turns s known there) (known_within count)
meaning_within reading turns growth (Some (meanings.Local number)) count sound known =
    any_within count (stand_or_nothing (declared_stand reading.places.locals number growth.named))
meaning_within reading turns growth (Some (meanings.Slot number)) count sound known =
    found_within IsSlotStand (count - 1) count (declared_stand reading.places.slots number growth.asked)
    (λ s there. declared_is IsSlotStand reading.places.slots number growth.asked s sound.asked there) (slot_within count)
meaning_within reading turns growth (Some (meanings.Here part)) count sound known = omega arith
meaning_within reading turns growth (Some (meanings.Scope place)) count sound known = file_within (file_stand reading.lexicon place) count
meaning_within reading turns growth (Some (meanings.BuiltIn class)) count sound known = omega arith

-- the names but the first of a path, or fewer of them, read no more than is counted
pub path_adds : (reading : Readings) (turns : List Made) (path : Path) (names : List Name) (count : ℕ) (growth : Growth)
    → length names ≤ count → Sound growth → EachMade IsKnownStand turns
    → Adds (extra_reads (front_reads reading.lexicon reading.names path count)) growth
    (rest_stand reading (first_stand reading turns growth path.first.at) names growth).growth
path_adds reading turns path names count growth within sound known =
    let here = first_stand reading turns growth path.first.at in
    adds_within (extra_reads (stand_reads here count)) (extra_reads (front_reads reading.lexicon reading.names path count)) growth
    (rest_stand reading here names growth).growth
    (reads_within (stand_reads here count) (front_reads reading.lexicon reading.names path count)
    (meaning_within reading turns growth (name_read_at path.first.at reading.names) count sound known))
    (rest_adds reading here names count growth within)
