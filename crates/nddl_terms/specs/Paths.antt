-- What paths stand for in a rule.
use Rattle.std.specs.Prelude.{ℕ, ℤ, List, [], ◌∷◌, Option, length, slice_get}
use Rattle.std.specs.Option.{option_and_then, option_map_or}
use Rattle.eu_name.specs.declared.name.Part.{Part}
use Rattle.model_core.specs.declared.class.Object.{Object}
use Rattle.model_core.specs.declared.item.Term.{Term}
use Rattle.model_core.specs.declared.item.Term.TheVariants as terms
use Rattle.nddl_ast.specs.declared.name.Name.{Name}
use Rattle.nddl_ast.specs.declared.name.Path.{Path}
use Rattle.nddl_terms.specs.declared.growth.Growth.{Growth}
use Rattle.nddl_terms.specs.declared.lexicon.Attribute.{Attribute}
use Rattle.nddl_terms.specs.declared.stands.Made.{Made}
use Rattle.nddl_terms.specs.declared.stands.Stand.{Stand}
use Rattle.nddl_terms.specs.declared.stands.Stand.TheVariants.{Value, Slot, Root, Class, Nothing}
use Rattle.nddl_terms.specs.Growth.{with_access}
use Rattle.nddl_terms.specs.Lexicon.{attribute_class, attribute_kind, attribute_number, shape_fields, part_class, part_kind}
use Rattle.nddl_terms.specs.Lexicon.{part_called, place_of_value}
use Rattle.nddl_terms.specs.Readings.{Readings}
use Rattle.nddl_terms.specs.Stands.{first_stand}

-- what a path stands for, and what the rule has then
pub record Reached : Type 0 where
  pub stand : Stand
  pub growth : Growth

abbrev pub reached : Stand → Growth → Reached
reached stand growth = record { stand = stand; growth = growth }

-- ---- fields

-- what the object that is this value has in its field of this number
abbrev pub known_value : List Object → ℤ → ℕ → Option ℤ
known_value objects value number =
    option_and_then (λ object. slice_get object.fields number) (option_and_then (slice_get objects) (place_of_value value))

-- the same, where its declared class has these fields
abbrev pub known_stand : List Object → ℤ → List Attribute → ℕ → Stand
known_stand objects value fields number =
    option_map_or (λ content. Value (terms.Lit content) (attribute_kind fields number) (attribute_class fields number))
    (known_value objects value number) Nothing

-- the field of this number of a variable, where its declared class has these: a local more
abbrev pub read_field : Term → List Attribute → ℕ → Growth → Reached
read_field object fields number growth =
    option_map_or
    (λ attribute. reached (Value (terms.Local (length growth.locals)) attribute.shape.kind attribute.shape.class)
    (with_access object number attribute.shape growth))
    (slice_get fields number) (reached Nothing growth)

-- the field of this number of what the term is: of a known object what it has there, which is known too
abbrev pub numbered_field : List Object → Term → List Attribute → ℕ → Growth → Reached
numbered_field objects (terms.Lit value) fields number growth = reached (known_stand objects value fields number) growth
numbered_field objects object fields number growth = read_field object fields number growth

abbrev pub next_field : Readings → Term → ℕ → List ℕ → Growth → Reached
next_field reading object class name growth =
    let fields = shape_fields reading.lexicon class in
    option_map_or (λ number. numbered_field reading.objects object fields number growth) (attribute_number name fields)
    (reached Nothing growth)

-- ---- parts of tokens

-- the part of a token as a variable
abbrev pub part_stand : Readings → Stand → Part → Stand
part_stand reading (Slot number pred) part =
    Value (terms.Slot number part) (part_kind reading.lexicon pred part) (part_class reading.lexicon pred part)
part_stand reading (Root number pred) part =
    Value (terms.Root number part) (part_kind reading.lexicon pred part) (part_class reading.lexicon pred part)
part_stand reading here part = Nothing

-- the part of this name of a token of the predicate
abbrev pub token_stand : Readings → Stand → ℕ → List ℕ → Stand
token_stand reading here pred name =
    option_map_or (part_stand reading here) (part_called reading.lexicon pred name) Nothing

-- ---- paths

-- what the name stands for behind what stands for this: a field of an object, or a part of a token
abbrev pub next_stand : Readings → Stand → Name → Growth → Reached
next_stand reading (Value term kind class) name growth = next_field reading term class name.text growth
next_stand reading (Slot number pred) name growth = reached (token_stand reading (Slot number pred) pred name.text) growth
next_stand reading (Root number pred) name growth = reached (token_stand reading (Root number pred) pred name.text) growth
next_stand reading (Class class) name growth = reached Nothing growth
next_stand reading Nothing name growth = reached Nothing growth

-- what the last of the names stands for
abbrev pub rest_stand : Readings → Stand → List Name → Growth → Reached
rest_stand reading here [] growth = reached here growth
rest_stand reading here (name ∷ more) growth =
    let next = next_stand reading here name growth in rest_stand reading next.stand more next.growth

-- what the path stands for, in these turns and with what the rule has so far
abbrev pub path_stand : Readings → List Made → Path → Growth → Reached
path_stand reading turns path growth =
    rest_stand reading (first_stand reading turns growth path.first.at) path.rest growth
