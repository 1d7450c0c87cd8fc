-- Paths that lead to something read just as many fields as are counted.
use Rattle.std.proofs.Common.{◌≡◌, ℕ, ◌+◌, ◌-◌, ◌≤◌, ℤ, List, [], ◌∷◌, length, refl, sym, subst, arith}
use Rattle.std.specs.Prelude.{true, Option, Some, None, slice_get}
use Rattle.std.specs.Option.{option_and_then, option_map_or}
use Rattle.eu_name.specs.declared.name.Part.{Part}
use Rattle.model_core.specs.declared.item.Term.{Term}
use Rattle.model_core.specs.declared.item.Term.TheVariants as terms
use Rattle.model_core.specs.declared.variable.ValueKind.{ValueKind}
use Rattle.nddl_ast.specs.declared.name.Name.{Name}
use Rattle.nddl_ast.specs.declared.name.Path.{Path}
use Rattle.nddl_terms.specs.declared.tree.Meaning.{Meaning}
use Rattle.nddl_terms.specs.declared.tree.Meaning.TheVariants as meanings
use Rattle.nddl_terms.specs.declared.growth.Growth.{Growth}
use Rattle.nddl_terms.specs.declared.lexicon.Attribute.{Attribute}
use Rattle.nddl_terms.specs.declared.stands.Made.{Made}
use Rattle.nddl_terms.specs.declared.stands.Stand.{Stand}
use Rattle.nddl_terms.specs.declared.stands.Stand.TheVariants.{Value, Slot, Root, Class, Nothing}
use Rattle.nddl_terms.specs.Growth.{with_access}
use Rattle.nddl_terms.specs.Lexicon.{attribute_class, attribute_kind, attribute_number, part_called, shape_fields}
use Rattle.nddl_terms.specs.Names.{name_read_at}
use Rattle.nddl_terms.specs.Paths.{Reached, known_value, numbered_field, part_stand, reached, read_field, next_stand, rest_stand}
use Rattle.nddl_terms.specs.Readings.{Readings}
use Rattle.nddl_terms.specs.Stands.{declared_stand, file_stand, first_stand, meaning_stand, stand_or_nothing}
use Rattle.nddl_unroll.specs.Meant.{IsLed, IsSlotStand, IsSomething}
use Rattle.nddl_unroll.specs.Reads.{file_reads, front_reads, is_class_meaning, is_class_stand, meaning_reads}
use Rattle.nddl_unroll.proofs.Extras.{EachMade, Gives, IsKnownStand, IsLocalStand, IsNoClass, Sound, extra_and, extra_reads, gives_access, gives_none, gives_same, gives_then}
use Rattle.nddl_unroll.proofs.Paths.{declared_is, known_field, stand_reads}

abbrev pub IsClass : Stand → Type 0
IsClass (Class class) = Unit {0}
IsClass stand = ⊥

not_both : (stand : Stand) → IsClass stand → IsNoClass stand → ⊥
not_both (Class class) is none = none
not_both stand is none = absurd is

-- ---- single names

-- Where one name of so many leads to something, it reads just so many fields and those behind it the rest. It leads to no
-- class.
record LeadsJust (bound count : ℕ) (growth : Growth) (next : Reached) : Type 0 where
  first : ℕ
  gives : Gives (extra_reads first) growth next.growth
  rest : first + stand_reads next.stand (count - 1) ≡ bound
  plain : IsNoClass next.stand

plain_field : (found : Option ℤ) (kind : ValueKind) (class : ℕ)
    → IsNoClass (option_map_or (λ content. Value (terms.Lit content) kind class) found Nothing)
plain_field None kind class = tt
plain_field (Some content) kind class = tt

known_just : (reading : Readings) (value : ℤ) (fields : List Attribute) (count : ℕ) (growth : Growth) (found : Option ℕ)
    → IsSomething (option_map_or (λ number. numbered_field reading.objects (terms.Lit value) fields number growth) found (reached Nothing growth)).stand
    → LeadsJust 0 count growth (option_map_or (λ number. numbered_field reading.objects (terms.Lit value) fields number growth) found (reached Nothing growth))
known_just reading value fields count growth None is = absurd is
known_just reading value fields count growth (Some number) is =
    let none = known_field (known_value reading.objects value number) (attribute_kind fields number) (attribute_class fields number) (count - 1) in
    record {
      first = 0;
      gives = gives_none growth;
      rest = omega (arith, none);
      plain = plain_field (known_value reading.objects value number) (attribute_kind fields number) (attribute_class fields number);
    }

attribute_just : (object : Term) (number count : ℕ) (growth : Growth) (found : Option Attribute) → 1 ≤ count
    → IsSomething (option_map_or (λ attribute. reached (Value (terms.Local (length growth.locals)) attribute.shape.kind attribute.shape.class)
    (with_access object number attribute.shape growth)) found (reached Nothing growth)).stand
    → LeadsJust count count growth (option_map_or (λ attribute. reached (Value (terms.Local (length growth.locals)) attribute.shape.kind attribute.shape.class)
    (with_access object number attribute.shape growth)) found (reached Nothing growth))
attribute_just object number count growth None some is = absurd is
attribute_just object number count growth (Some attribute) some is =
    record { first = 1; gives = gives_access object number attribute.shape growth; rest = omega (arith, some); plain = tt }

read_just : (object : Term) (fields : List Attribute) (count : ℕ) (growth : Growth) (found : Option ℕ) → 1 ≤ count
    → IsSomething (option_map_or (λ number. read_field object fields number growth) found (reached Nothing growth)).stand
    → LeadsJust count count growth (option_map_or (λ number. read_field object fields number growth) found (reached Nothing growth))
read_just object fields count growth None some is = absurd is
read_just object fields count growth (Some number) some is = attribute_just object number count growth (slice_get fields number) some is

slot_just : (reading : Readings) (number pred count : ℕ) (growth : Growth) (found : Option Part)
    → IsSomething (option_map_or (part_stand reading (Slot number pred)) found Nothing)
    → LeadsJust (count - 1) count growth (reached (option_map_or (part_stand reading (Slot number pred)) found Nothing) growth)
slot_just reading number pred count growth None is = absurd is
slot_just reading number pred count growth (Some part) is =
    record { first = 0; gives = gives_none growth; rest = omega arith; plain = tt }

root_just : (reading : Readings) (number pred count : ℕ) (growth : Growth) (found : Option Part)
    → IsSomething (option_map_or (part_stand reading (Root number pred)) found Nothing)
    → LeadsJust (count - 1) count growth (reached (option_map_or (part_stand reading (Root number pred)) found Nothing) growth)
root_just reading number pred count growth None is = absurd is
root_just reading number pred count growth (Some part) is =
    record { first = 0; gives = gives_none growth; rest = omega arith; plain = tt }

next_just : (reading : Readings) (here : Stand) (name : Name) (count : ℕ) (growth : Growth) → 1 ≤ count
    → IsSomething (next_stand reading here name growth).stand → LeadsJust (stand_reads here count) count growth (next_stand reading here name growth)
next_just reading (Value (terms.Lit value) kind class) name count growth some is =
    known_just reading value (shape_fields reading.lexicon class) count growth (attribute_number name.text (shape_fields reading.lexicon class)) is
next_just reading (Value (terms.Here part) kind class) name count growth some is =
    read_just (terms.Here part) (shape_fields reading.lexicon class) count growth (attribute_number name.text (shape_fields reading.lexicon class)) some is
next_just reading (Value (terms.Slot number part) kind class) name count growth some is =
    read_just (terms.Slot number part) (shape_fields reading.lexicon class) count growth (attribute_number name.text (shape_fields reading.lexicon class)) some is
next_just reading (Value (terms.Local number) kind class) name count growth some is =
    read_just (terms.Local number) (shape_fields reading.lexicon class) count growth (attribute_number name.text (shape_fields reading.lexicon class)) some is
next_just reading (Value (terms.Global number) kind class) name count growth some is =
    read_just (terms.Global number) (shape_fields reading.lexicon class) count growth (attribute_number name.text (shape_fields reading.lexicon class)) some is
next_just reading (Value (terms.Root number part) kind class) name count growth some is =
    read_just (terms.Root number part) (shape_fields reading.lexicon class) count growth (attribute_number name.text (shape_fields reading.lexicon class)) some is
next_just reading (Slot number pred) name count growth some is =
    slot_just reading number pred count growth (part_called reading.lexicon pred name.text) is
next_just reading (Root number pred) name count growth some is =
    root_just reading number pred count growth (part_called reading.lexicon pred name.text) is
next_just reading (Class class) name count growth some is = absurd is
next_just reading Nothing name count growth some is = absurd is

-- ---- names one after another

-- nothing comes of what is nothing
nothing_behind : (reading : Readings) (names : List Name) (growth : Growth) → IsSomething (rest_stand reading Nothing names growth).stand → ⊥
nothing_behind reading [] growth is = is
nothing_behind reading (name ∷ more) growth is = nothing_behind reading more growth is

-- what leads to something is something
something_before : (reading : Readings) (here : Stand) (names : List Name) (growth : Growth)
    → IsSomething (rest_stand reading here names growth).stand → IsSomething here
something_before reading Nothing names growth is = nothing_behind reading names growth is
something_before reading (Value term kind class) names growth is = tt
something_before reading (Slot number pred) names growth is = tt
something_before reading (Root number pred) names growth is = tt
something_before reading (Class class) names growth is = tt

no_more_reads : (here : Stand) → stand_reads here 0 ≡ 0
no_more_reads (Value (terms.Lit value) kind class) = refl
no_more_reads (Value term kind class) = refl
no_more_reads (Slot number pred) = refl
no_more_reads (Root number pred) = refl
no_more_reads (Class class) = refl
no_more_reads Nothing = refl

reads_none : (here : Stand) (growth : Growth) → Gives (extra_reads (stand_reads here 0)) growth growth
reads_none here growth = subst (λ (count : ℕ). Gives (extra_reads count) growth growth) (sym (no_more_reads here)) (gives_none growth)

-- the names of a path that leads to something read just so many fields
rest_gives : (reading : Readings) (here : Stand) (names : List Name) (growth : Growth)
    → IsSomething (rest_stand reading here names growth).stand
    → Gives (extra_reads (stand_reads here (length names))) growth (rest_stand reading here names growth).growth
rest_gives reading here [] growth is = reads_none here growth
rest_gives reading here (name ∷ more) growth is =
    let count = length (name ∷ more) in
    let some : 1 ≤ count = omega arith in
    let fewer : length more ≡ count - 1 = omega arith in
    let next = next_stand reading here name growth in
    let leads = next_just reading here name count growth some (something_before reading next.stand more next.growth is) in
    let behind = rest_gives reading next.stand more next.growth is in
    let left = subst (λ (n : ℕ). Gives (extra_reads (stand_reads next.stand n)) next.growth (rest_stand reading next.stand more next.growth).growth) fewer behind in
    gives_same (extra_and (extra_reads leads.first) (extra_reads (stand_reads next.stand (count - 1)))) (extra_reads (stand_reads here count))
    growth (rest_stand reading next.stand more next.growth).growth
    (record { slots = refl; locals = leads.rest; items = leads.rest; guards = refl; turns = refl })
    (gives_then (extra_reads leads.first) (extra_reads (stand_reads next.stand (count - 1))) growth next.growth
    (rest_stand reading next.stand more next.growth).growth leads.gives left)

-- ---- known objects

nothing_same : (reading : Readings) (names : List Name) (growth : Growth) → (rest_stand reading Nothing names growth).growth ≡ growth
nothing_same reading [] growth = refl
nothing_same reading (name ∷ more) growth = nothing_same reading more growth

value_same : (reading : Readings) (found : Option ℤ) (kind : ValueKind) (class : ℕ) (names : List Name) (growth : Growth)
    → ((content : ℤ) → (rest_stand reading (Value (terms.Lit content) kind class) names growth).growth ≡ growth)
    → (rest_stand reading (option_map_or (λ content. Value (terms.Lit content) kind class) found Nothing) names growth).growth ≡ growth
value_same reading None kind class names growth again = nothing_same reading names growth
value_same reading (Some content) kind class names growth again = again content

field_same : (reading : Readings) (value : ℤ) (fields : List Attribute) (found : Option ℕ) (names : List Name) (growth : Growth)
    → ((content : ℤ) (kind : ValueKind) (class : ℕ) → (rest_stand reading (Value (terms.Lit content) kind class) names growth).growth ≡ growth)
    → (rest_stand reading (option_map_or (λ number. numbered_field reading.objects (terms.Lit value) fields number growth) found (reached Nothing growth)).stand
    names (option_map_or (λ number. numbered_field reading.objects (terms.Lit value) fields number growth) found (reached Nothing growth)).growth).growth ≡ growth
field_same reading value fields None names growth again = nothing_same reading names growth
field_same reading value fields (Some number) names growth again =
    value_same reading (known_value reading.objects value number) (attribute_kind fields number) (attribute_class fields number) names growth
    (λ content. again content (attribute_kind fields number) (attribute_class fields number))

-- what is behind a known object adds nothing to the rule
known_same : (reading : Readings) (value : ℤ) (kind : ValueKind) (class : ℕ) (names : List Name) (growth : Growth)
    → (rest_stand reading (Value (terms.Lit value) kind class) names growth).growth ≡ growth
known_same reading value kind class [] growth = refl
known_same reading value kind class (name ∷ more) growth =
    field_same reading value (shape_fields reading.lexicon class) (attribute_number name.text (shape_fields reading.lexicon class)) more growth
    (λ content kind below. known_same reading content kind below more growth)

led_gives : (reading : Readings) (here : Stand) (names : List Name) (growth : Growth)
    → IsLed here (rest_stand reading here names growth).stand
    → Gives (extra_reads (stand_reads here (length names))) growth (rest_stand reading here names growth).growth
led_gives reading (Value (terms.Lit value) kind class) names growth is =
    subst (Gives (extra_reads 0) growth) (sym (known_same reading value kind class names growth)) (gives_none growth)
led_gives reading here names growth is = rest_gives reading here names growth is

led_before : (reading : Readings) (here : Stand) (names : List Name) (growth : Growth)
    → IsLed here (rest_stand reading here names growth).stand → IsSomething here
led_before reading (Value (terms.Lit value) kind class) names growth is = tt
led_before reading here names growth is = something_before reading here names growth is

pub something_led : (here end : Stand) → IsSomething end → IsLed here end
something_led (Value (terms.Lit value) kind class) end is = tt
something_led here end is = is

-- ---- what leads to classes

something_class : (stand : Stand) → IsClass stand → IsSomething stand
something_class (Class class) is = tt
something_class stand is = absurd is

-- only a class alone leads to a class
pub class_before : (reading : Readings) (here : Stand) (names : List Name) (growth : Growth)
    → IsClass (rest_stand reading here names growth).stand → IsClass here
class_before reading here [] growth is = is
class_before reading here (name ∷ more) growth is =
    let next = next_stand reading here name growth in
    let classed = class_before reading next.stand more next.growth is in
    let leads = next_just reading here name 1 growth (omega arith) (something_class next.stand classed) in
    absurd (not_both next.stand classed leads.plain)

-- ---- first names

found_just : (P : Stand → Type 0) (bound count : ℕ) (found : Option Stand) → ((s : Stand) → found ≡ Some s → P s)
    → ((s : Stand) → P s → stand_reads s count ≡ bound) → IsSomething (stand_or_nothing found) → stand_reads (stand_or_nothing found) count ≡ bound
found_just P bound count None each just is = absurd is
found_just P bound count (Some stand) each just is = just stand (each stand refl)

known_reads : (count : ℕ) (stand : Stand) → IsKnownStand stand → stand_reads stand count ≡ 0
known_reads count (Value (terms.Lit value) kind class) is = refl
known_reads count stand is = absurd is

local_reads : (count : ℕ) (stand : Stand) → IsLocalStand stand → stand_reads stand count ≡ count
local_reads count (Value (terms.Local number) kind class) is = refl
local_reads count stand is = absurd is

slot_reads : (count : ℕ) (stand : Stand) → IsSlotStand stand → stand_reads stand count ≡ count - 1
slot_reads count (Slot number pred) is = refl
slot_reads count stand is = absurd is

file_just : (found : Option Stand) (count : ℕ) → stand_reads (stand_or_nothing found) count ≡ file_reads found count
file_just None count = refl
file_just (Some (Value (terms.Lit value) kind class)) count = refl
file_just (Some (Value term kind class)) count = refl
file_just (Some stand) count = refl

-- what stands for a name, if anything does, reads as much as is counted of what it means
meaning_just : (reading : Readings) (turns : List Made) (growth : Growth) (found : Option Meaning) (count : ℕ)
    → Sound growth → EachMade IsKnownStand turns
    → IsSomething (stand_or_nothing (option_and_then (meaning_stand reading turns growth) found))
    → stand_reads (stand_or_nothing (option_and_then (meaning_stand reading turns growth) found)) count ≡ meaning_reads reading.lexicon found count
meaning_just reading turns growth None count sound known is = absurd is
meaning_just reading turns growth (Some (meanings.Turn number)) count sound known is =
    found_just IsKnownStand 0 count (declared_stand reading.places.turns number turns)
    (λ s there. declared_is IsKnownStand reading.places.turns number turns s known there) (known_reads count) is
meaning_just reading turns growth (Some (meanings.Local number)) count sound known is =
    found_just IsLocalStand count count (declared_stand reading.places.locals number growth.named)
    (λ s there. declared_is IsLocalStand reading.places.locals number growth.named s sound.named there) (local_reads count) is
meaning_just reading turns growth (Some (meanings.Slot number)) count sound known is =
    found_just IsSlotStand (count - 1) count (declared_stand reading.places.slots number growth.asked)
    (λ s there. declared_is IsSlotStand reading.places.slots number growth.asked s sound.asked there) (slot_reads count) is
meaning_just reading turns growth (Some (meanings.Here part)) count sound known is = refl
meaning_just reading turns growth (Some (meanings.Scope place)) count sound known is = file_just (file_stand reading.lexicon place) count
meaning_just reading turns growth (Some (meanings.BuiltIn class)) count sound known is = refl

-- the names but the first of a path, or fewer of them, read what is counted, if they lead to something or are known
pub path_gives : (reading : Readings) (turns : List Made) (path : Path) (names : List Name) (count : ℕ) (growth : Growth)
    → length names ≡ count → Sound growth → EachMade IsKnownStand turns
    → IsLed (first_stand reading turns growth path.first.at) (rest_stand reading (first_stand reading turns growth path.first.at) names growth).stand
    → Gives (extra_reads (front_reads reading.lexicon reading.names path count)) growth
    (rest_stand reading (first_stand reading turns growth path.first.at) names growth).growth
path_gives reading turns path names count growth as_many sound known is =
    let here = first_stand reading turns growth path.first.at in
    let end = (rest_stand reading here names growth).growth in
    let just = meaning_just reading turns growth (name_read_at path.first.at reading.names) count sound known (led_before reading here names growth is) in
    let given = subst (λ (n : ℕ). Gives (extra_reads (stand_reads here n)) growth end) as_many (led_gives reading here names growth is) in
    subst (λ (n : ℕ). Gives (extra_reads n) growth end) just given

-- ---- classes

no_class_found : (P : Stand → Type 0) (found : Option Stand) → ((s : Stand) → found ≡ Some s → P s) → ((s : Stand) → P s → IsNoClass s)
    → IsNoClass (stand_or_nothing found)
no_class_found P None each none = tt
no_class_found P (Some stand) each none = none stand (each stand refl)

known_plain : (stand : Stand) → IsKnownStand stand → IsNoClass stand
known_plain (Class class) is = absurd is
known_plain stand is = tt

local_plain : (stand : Stand) → IsLocalStand stand → IsNoClass stand
local_plain (Class class) is = absurd is
local_plain stand is = tt

slot_plain : (stand : Stand) → IsSlotStand stand → IsNoClass stand
slot_plain (Class class) is = absurd is
slot_plain stand is = tt

file_classed : (found : Option Stand) → IsClass (stand_or_nothing found) → is_class_stand found ≡ true
file_classed None is = absurd is
file_classed (Some (Class class)) is = refl
file_classed (Some stand) is = absurd is

-- only a name that means a class stands for one
pub class_meant : (reading : Readings) (turns : List Made) (growth : Growth) (found : Option Meaning) → Sound growth → EachMade IsKnownStand turns
    → IsClass (stand_or_nothing (option_and_then (meaning_stand reading turns growth) found)) → is_class_meaning reading.lexicon found ≡ true
class_meant reading turns growth None sound known is = absurd is
class_meant reading turns growth (Some (meanings.Turn number)) sound known is =
    absurd (not_both (stand_or_nothing (declared_stand reading.places.turns number turns)) is
    (no_class_found IsKnownStand (declared_stand reading.places.turns number turns)
    (λ s there. declared_is IsKnownStand reading.places.turns number turns s known there) known_plain))
class_meant reading turns growth (Some (meanings.Local number)) sound known is =
    absurd (not_both (stand_or_nothing (declared_stand reading.places.locals number growth.named)) is
    (no_class_found IsLocalStand (declared_stand reading.places.locals number growth.named)
    (λ s there. declared_is IsLocalStand reading.places.locals number growth.named s sound.named there) local_plain))
class_meant reading turns growth (Some (meanings.Slot number)) sound known is =
    absurd (not_both (stand_or_nothing (declared_stand reading.places.slots number growth.asked)) is
    (no_class_found IsSlotStand (declared_stand reading.places.slots number growth.asked)
    (λ s there. declared_is IsSlotStand reading.places.slots number growth.asked s sound.asked there) slot_plain))
class_meant reading turns growth (Some (meanings.Here part)) sound known is = absurd is
class_meant reading turns growth (Some (meanings.Scope place)) sound known is = file_classed (file_stand reading.lexicon place) is
class_meant reading turns growth (Some (meanings.BuiltIn class)) sound known is = refl
