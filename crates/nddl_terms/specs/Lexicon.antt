-- What is known of classes, predicates and types.
use Rattle.std.specs.Prelude.{ℕ, ℤ, pos, negsuc, List, [], Option, Some, None, slice_get, codes}
use Rattle.std.specs.Prelude.{if◌then◌else◌}
use Rattle.std.specs.List.{position_from}
use Rattle.std.specs.Option.{option_map, option_map_or}
use Rattle.std.specs.Str.{bytes_eq}
use Rattle.eu_name.specs.declared.name.Part.{Part}
use Rattle.eu_name.specs.declared.name.Part.TheVariants as parts
use Rattle.model_core.specs.declared.variable.ValueKind.{ValueKind}
use Rattle.model_core.specs.declared.variable.ValueKind.TheVariants as kinds
use Rattle.nddl_terms.specs.declared.lexicon.Attribute.{Attribute}
use Rattle.nddl_terms.specs.declared.lexicon.Lexicon.{Lexicon}
use Rattle.eu_forest.specs.Members.{list_at}
use Rattle.nddl_terms.specs.Preds.{class_named}

-- the number of the field or parameter of this name
abbrev pub attribute_number : List ℕ → List Attribute → Option ℕ
attribute_number name attributes = position_from (λ attribute. bytes_eq name attribute.name) 0 attributes

-- the kind of the one of this number
abbrev pub attribute_kind : List Attribute → ℕ → ValueKind
attribute_kind attributes number = option_map_or (λ attribute. attribute.shape.kind) (slice_get attributes number) kinds.Int

-- the declared class of the one of this number
abbrev pub attribute_class : List Attribute → ℕ → ℕ
attribute_class attributes number = option_map_or (λ attribute. attribute.shape.class) (slice_get attributes number) 0

-- the fields of a class
abbrev pub shape_fields : Lexicon → ℕ → List Attribute
shape_fields lexicon class = option_map_or (λ shape. shape.fields) (slice_get lexicon.classes class) []

-- the objects of a class and of those under it, in the order in which they were made
abbrev pub class_objects : Lexicon → ℕ → List ℤ
class_objects lexicon class = list_at lexicon.populations class

-- the parameters of a predicate
abbrev pub pred_params : Lexicon → ℕ → List Attribute
pred_params lexicon pred = option_map_or (λ shape. shape.params) (slice_get lexicon.preds pred) []

-- the class of a predicate
abbrev pub pred_class : Lexicon → ℕ → ℕ
pred_class lexicon pred = option_map_or (λ shape. shape.class) (slice_get lexicon.preds pred) 0

-- the predicate of this name of the class
abbrev pub pred_named : Lexicon → ℕ → List ℕ → Option ℕ
pred_named lexicon class name = class_named class name lexicon.preds

-- ---- parts of tokens

-- the part of this name of a token: a time, its object, or a parameter
abbrev pub part_called : Lexicon → ℕ → List ℕ → Option Part
part_called lexicon pred name =
    if bytes_eq name (codes "start") then Some parts.Start
    else (if bytes_eq name (codes "end") then Some parts.End
    else (if bytes_eq name (codes "duration") then Some parts.Duration
    else (if bytes_eq name (codes "object") then Some parts.Object
    else option_map parts.Param (attribute_number name (pred_params lexicon pred)))))

-- the kind of a part: a time is a whole number
abbrev pub part_kind : Lexicon → ℕ → Part → ValueKind
part_kind lexicon pred parts.Object = kinds.Object
part_kind lexicon pred (parts.Param number) = attribute_kind (pred_params lexicon pred) number
part_kind lexicon pred part = kinds.Int

-- the declared class of a part: the object is of the predicate's class
abbrev pub part_class : Lexicon → ℕ → Part → ℕ
part_class lexicon pred parts.Object = pred_class lexicon pred
part_class lexicon pred (parts.Param number) = attribute_class (pred_params lexicon pred) number
part_class lexicon pred part = 0

-- ---- values

-- the place that the value is as a number from 0 on
abbrev pub place_of_value : ℤ → Option ℕ
place_of_value (pos place) = Some place
place_of_value (negsuc number) = None
