-- What the locals of a rule stand for.
use Rattle.std.specs.Prelude.{ℕ, ℤ, pos, negsuc, List, [], ◌∷◌, ◌++◌, Option, Some, None, length, slice_get}
use Rattle.std.specs.List.{filter_map}
use Rattle.std.specs.Option.{option_and_then, option_map_or}
use Rattle.domain_core.specs.Domain.{Range, Set}
use Rattle.model_core.specs.declared.item.Item.TheVariants.{Constraint}
use Rattle.domain_core.specs.declared.kind.Kind.TheVariants.{Eq}
use Rattle.model_core.specs.declared.item.Term.TheVariants as terms
use Rattle.model_core.specs.declared.variable.Base.{Base}
use Rattle.model_core.specs.declared.variable.Base.TheVariants as bases
use Rattle.model_core.specs.declared.variable.ValueKind.{ValueKind}
use Rattle.model_core.specs.declared.variable.ValueKind.TheVariants as kinds
use Rattle.nddl_ast.specs.declared.expression.BaseType.{BaseType}
use Rattle.nddl_ast.specs.declared.expression.BaseType.TheVariants as written
use Rattle.nddl_ast.specs.declared.expression.Bounds.{Bounds}
use Rattle.nddl_ast.specs.declared.expression.Bounds.TheVariants as bounds
use Rattle.nddl_ast.specs.declared.expression.Constant.{Constant}
use Rattle.nddl_ast.specs.declared.expression.Constant.TheVariants as constants
use Rattle.nddl_ast.specs.declared.expression.Init.{Init}
use Rattle.nddl_ast.specs.declared.expression.Init.TheVariants as inits
use Rattle.nddl_ast.specs.declared.expression.Type as types
use Rattle.nddl_ast.specs.declared.expression.Value as value_of
use Rattle.nddl_ast.specs.declared.expression.Value.TheVariants as values
use Rattle.nddl_ast.specs.declared.statement.Variable.{Variable}
use Rattle.nddl_ast.specs.Decimals.{constant_decimal}
use Rattle.nddl_terms.specs.declared.tree.Meaning.{Meaning}
use Rattle.nddl_terms.specs.declared.tree.Meaning.TheVariants as meanings
use Rattle.nddl_declarations.specs.Ascending.{ascending_of}
use Rattle.nddl_terms.specs.declared.growth.Growth.{Growth}
use Rattle.nddl_terms.specs.declared.lexicon.Lexicon.{Lexicon}
use Rattle.nddl_terms.specs.declared.lexicon.Shape.{Shape}
use Rattle.nddl_terms.specs.declared.stands.Made.{Made}
use Rattle.nddl_terms.specs.declared.stands.Stand.{Stand}
use Rattle.nddl_terms.specs.declared.stands.Stand.TheVariants.{Value, Class}
use Rattle.nddl_terms.specs.Growth.{unnamed, with_item, with_next_local}
use Rattle.nddl_terms.specs.Names.{name_read_at}
use Rattle.nddl_terms.specs.Readings.{Readings}
use Rattle.nddl_terms.specs.Stands.{file_stand, first_stand}
use Rattle.nddl_lower.specs.Arguments.{argument, truth_value}
use Rattle.nddl_lower.specs.Compared.{compared_terms}
use Rattle.nddl_lower.specs.Slots.{class_base}

-- ---- types that are names

-- an object of the class
abbrev pub class_shape : Lexicon → ℕ → Shape
class_shape lexicon class = record { kind = kinds.Object; base = class_base lexicon class; class = class }

-- all numbers of a kind: those of decimals are thousandths
abbrev pub numeric_shape : ValueKind → Shape
numeric_shape kind = record { kind = kind; base = bases.Given (Range (negsuc 999999) (pos 1000000)); class = 0 }

-- any whole number
abbrev pub whole_shape : Shape
whole_shape = numeric_shape kinds.Int

-- any decimal
abbrev pub decimal_shape : Shape
decimal_shape = numeric_shape kinds.Float

abbrev pub truth_shape : Shape
truth_shape = record { kind = kinds.Bool; base = bases.Given (Set (ascending_of (pos 0 ∷ pos 1 ∷ []))); class = 0 }

-- an object of the class that a name stands for; a name that stands for none is no type
abbrev pub stand_shape : Lexicon → Option Stand → Shape
stand_shape lexicon (Some (Class class)) = class_shape lexicon class
stand_shape lexicon stand = whole_shape

-- what the name of this place in the scope is as a type: an enum, a typedef or a class
abbrev pub file_shape : Lexicon → ℕ → Shape
file_shape lexicon place =
    option_map_or (λ shape. shape) (option_and_then (λ shape. shape) (slice_get lexicon.types place))
    (stand_shape lexicon (file_stand lexicon place))

abbrev pub meaning_shape : Lexicon → Option Meaning → Shape
meaning_shape lexicon (Some (meanings.Scope place)) = file_shape lexicon place
meaning_shape lexicon (Some (meanings.BuiltIn class)) = class_shape lexicon class
meaning_shape lexicon meaning = whole_shape

-- what a variable may be, before the bounds of its type restrict it
abbrev pub base_shape : Readings → BaseType → Shape
base_shape reading written.Float = decimal_shape
base_shape reading written.Bool = truth_shape
base_shape reading (written.Named name) = meaning_shape reading.lexicon (name_read_at name.at reading.names)
base_shape reading base = whole_shape

-- ---- bounds

-- a value that is known: a member, an object, or the object for which a variable of `foreach` stands in these turns
abbrev pub known_number : Stand → Option ℤ
known_number (Value (terms.Lit value) kind class) = Some value
known_number stand = None

-- the value of this kind that a constant is or stands for
abbrev pub constant_value : ValueKind → Constant → Option ℤ
constant_value kinds.Float constant = constant_decimal constant
constant_value kind (constants.Number number) = Some number
constant_value kind (constants.Truth truth) = Some (truth_value truth)
constant_value kind (constants.Decimal thousandths) = None

abbrev pub value_number : Readings → List Made → Growth → ValueKind → value_of.Value → Option ℤ
value_number reading turns growth kind (values.Name name) = known_number (first_stand reading turns growth name.at)
value_number reading turns growth kind (values.Literal literal) = constant_value kind literal.constant

-- an end of a range, which is a number
abbrev pub range_end : Readings → List Made → Growth → ValueKind → value_of.Value → ℤ
range_end reading turns growth kind value =
    option_map_or (λ number. number) (value_number reading turns growth kind value) (pos 0)

-- the numbers of this kind between two ends
abbrev pub range_base : Readings → List Made → Growth → ValueKind → value_of.Value → value_of.Value → Base
range_base reading turns growth kind least greatest =
    bases.Given (Range (range_end reading turns growth kind least) (range_end reading turns growth kind greatest))

-- the values of this kind that are written out
abbrev pub set_base : Readings → List Made → Growth → ValueKind → List value_of.Value → Base
set_base reading turns growth kind some =
    bases.Given (Set (ascending_of (filter_map (value_number reading turns growth kind) some)))

-- what the bounds of a type of this kind leave, if there are any
abbrev pub bounds_base : Readings → List Made → Growth → ValueKind → Bounds → Option Base
bounds_base reading turns growth kind bounds.All = None
bounds_base reading turns growth kind (bounds.Range at least greatest) =
    Some (range_base reading turns growth kind least greatest)
bounds_base reading turns growth kind (bounds.Set at some) = Some (set_base reading turns growth kind some)

-- the shape with this base in place of its own, if there is one
abbrev pub with_base : Shape → Option Base → Shape
with_base shape None = shape
with_base shape (Some base) = record { kind = shape.kind; base = base; class = shape.class }

-- what a variable of the type may be in these turns, with what was made so far
abbrev pub type_shape : Readings → List Made → Growth → types.Type → Shape
type_shape reading turns growth type =
    let shape = base_shape reading type.base in with_base shape (bounds_base reading turns growth shape.kind type.bounds)

-- ---- locals

-- this stands from here on for the local that the text declares there
abbrev pub with_named_at : ℕ → Stand → Growth → Growth
with_named_at at stand growth = record growth { named = growth.named ++ record { at = at; stand = stand } ∷ [] }

-- the next local, if it is of this shape
abbrev pub next_local : Shape → Growth → Stand
next_local shape growth = Value (terms.Local (length growth.locals)) shape.kind shape.class

-- the local of this shape that the text declares there
abbrev pub with_declared : ℕ → Shape → Growth → Growth
with_declared at shape growth = with_next_local (unnamed shape) (with_named_at at (next_local shape growth) growth)

-- what a local begins as comes before it, and that they are equal behind it
abbrev pub with_begun : Readings → List Made → ℕ → Shape → Option Init → Growth → Growth
with_begun reading turns at shape (Some (inits.Expr expr)) growth =
    let given = argument reading turns expr growth in
    with_item (Constraint Eq (compared_terms (next_local shape given.growth ∷ given.stand ∷ [])))
    (with_declared at shape given.growth)
with_begun reading turns at shape init growth = with_declared at shape growth

-- a local of the text
abbrev pub with_text_local : Readings → List Made → Variable → Growth → Growth
with_text_local reading turns variable growth =
    with_begun reading turns variable.name.at (type_shape reading turns growth variable.declared) variable.init growth
