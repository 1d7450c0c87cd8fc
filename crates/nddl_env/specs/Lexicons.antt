-- What is known of a program where its rules are unrolled.
use Rattle.std.specs.Prelude.{ℕ, ◌+◌, pos, List, [], ◌∷◌, ◌++◌, Option, Some, None, map}
use Rattle.std.specs.Prelude.{slice_get, if◌then◌else◌}
use Rattle.std.specs.List.{filter_map, flat_map}
use Rattle.std.specs.Option.{option_and_then, option_map, option_map_or}
use Rattle.model_core.specs.declared.class.Pred.{Pred}
use Rattle.model_core.specs.declared.item.Term.TheVariants as terms
use Rattle.model_core.specs.declared.variable.ValueKind.{ValueKind}
use Rattle.model_core.specs.declared.variable.ValueKind.TheVariants as values
use Rattle.nddl_ast.specs.declared.declaration.Member.{Member}
use Rattle.nddl_ast.specs.declared.declaration.Member.TheVariants as members
use Rattle.nddl_ast.specs.declared.declaration.Decl.{Decl}
use Rattle.nddl_ast.specs.declared.declaration.Decl.TheVariants as decls
use Rattle.nddl_ast.specs.declared.name.Name.{Name}
use Rattle.nddl_ast.specs.Path.{last_name}
use Rattle.nddl_symbols.specs.declared.declared.Declared.{Declared}
use Rattle.nddl_symbols.specs.declared.declared.Sort.{Sort}
use Rattle.nddl_symbols.specs.declared.declared.Sort.TheVariants as sorts
use Rattle.nddl_symbols.specs.declared.scope.Meaning.{Meaning}
use Rattle.nddl_symbols.specs.declared.scope.Meaning.TheVariants as meanings
use Rattle.nddl_symbols.specs.Names.{is_global_sort, is_root_sort}
use Rattle.nddl_typeexpr.specs.declared.kind.Extent.TheVariants as extents
use Rattle.nddl_typeexpr.specs.declared.kind.TypeKind.TheVariants as kinds
use Rattle.nddl_typeexpr.specs.Bases.{typedef_meaning}
use Rattle.nddl_hierarchy.specs.Ancestors.{above}
use Rattle.nddl_hierarchy.specs.Decls.{decl_of_name, members_of}
use Rattle.nddl_declarations.specs.Domains.{value_kind}
use Rattle.nddl_types.specs.Classes.{builtin_fields, class_entries, class_number, is_first, line_down}
use Rattle.nddl_types.specs.Predicates.{builtin_preds, given_preds}
use Rattle.nddl_resolve.specs.declared.denoted.Denoted.{Denoted}
use Rattle.nddl_resolve.specs.declared.denoted.Denoted.TheVariants as denoted
use Rattle.nddl_resolve.specs.Files.{file_denoted}
use Rattle.nddl_terms.specs.declared.lexicon.Attribute.{Attribute}
use Rattle.nddl_terms.specs.declared.lexicon.ClassShape.{ClassShape}
use Rattle.nddl_terms.specs.declared.lexicon.Lexicon.{Lexicon}
use Rattle.nddl_terms.specs.declared.lexicon.PredShape.{PredShape}
use Rattle.nddl_terms.specs.declared.lexicon.Shape.{Shape}
use Rattle.nddl_terms.specs.declared.stands.Stand.{Stand}
use Rattle.nddl_terms.specs.declared.stands.Stand.TheVariants as stands
use Rattle.nddl_terms.specs.Preds.{class_named}
use Rattle.nddl_env.specs.Listing.{populations}
use Rattle.nddl_env.specs.Objects.{made_object}
use Rattle.nddl_env.specs.Shapes.{World, entry_attributes, kind_class, number_attribute, part_attribute, shape_with}

-- ---- classes

-- the fields of a class
abbrev pub class_attributes : World → Meaning → List Attribute
class_attributes world (meanings.BuiltIn number) = map number_attribute (builtin_fields number)
class_attributes world (meanings.Entry entry) = entry_attributes world entry

abbrev pub class_shape_of : World → Meaning → ClassShape
class_shape_of world class = record { fields = class_attributes world class }

abbrev pub entry_shape : World → ℕ → ClassShape
entry_shape world entry = class_shape_of world (meanings.Entry entry)

-- the built-in classes
abbrev pub builtin_shapes : World → List ClassShape
builtin_shapes world =
    class_shape_of world (meanings.BuiltIn 0) ∷ class_shape_of world (meanings.BuiltIn 1)
    ∷ class_shape_of world (meanings.BuiltIn 2) ∷ class_shape_of world (meanings.BuiltIn 3) ∷ []

-- all classes, in the order of a table
abbrev pub class_shapes : World → List ClassShape
class_shapes world = builtin_shapes world ++ map (entry_shape world) (class_entries world.facts.names 0 world.facts.names)

-- ---- predicates

abbrev pub given_shape : Pred → PredShape
given_shape pred = record { class = pred.class; name = pred.name; params = map number_attribute pred.params }

-- the predicate of the class of this number that a member declares
abbrev pub member_shape : World → ℕ → Member → Option PredShape
member_shape world class (members.Predicate at name parts) =
    Some (record { class = class; name = name.text; params = filter_map (part_attribute world) parts })
member_shape world class member = None

abbrev pub pred_shapes_at : World → ℕ → ℕ → List PredShape
pred_shapes_at world class entry =
    map given_shape (given_preds class (above world.facts.names world.facts.program entry))
    ++ filter_map (member_shape world class) (members_of world.facts.names world.facts.program entry)

abbrev pub entry_pred_shapes : World → ℕ → List PredShape
entry_pred_shapes world entry =
    flat_map (pred_shapes_at world (class_number world.facts.names (meanings.Entry entry))) (line_down world.facts entry)

-- the predicates of the built-in classes
abbrev pub builtin_pred_shapes : List PredShape
builtin_pred_shapes = map given_shape (builtin_preds 2 2 ++ builtin_preds 3 3)

-- all predicates, in the order of a table
abbrev pub pred_shapes : World → List PredShape
pred_shapes world =
    builtin_pred_shapes ++ flat_map (entry_pred_shapes world) (class_entries world.facts.names 0 world.facts.names)

-- ---- names of the files

-- the kind of what a name of the files means, if that is a value
abbrev pub denoted_kind : Option Denoted → ValueKind
denoted_kind (Some (denoted.Value kind constant)) = value_kind kind
denoted_kind other = values.Int

-- the declared class of what a name of the files means, if that is an object
abbrev pub denoted_class : World → Option Denoted → ℕ
denoted_class world (Some (denoted.Value kind constant)) = kind_class world.facts.names kind
denoted_class world other = 0

-- the class of which the token is that a name of the files means
abbrev pub token_class : Option Denoted → Option Meaning
token_class (Some (denoted.Token token)) = Some token.class
token_class other = None

-- the predicate of which a declaration asks for a token
abbrev pub asked_name : Decl → Option Name
asked_name (decls.Ask ask) = Some (last_name ask.path)
asked_name decl = None

-- a root of this number, of the predicate of this name of the class
abbrev pub root_of_class : World → ℕ → List ℕ → Meaning → Stand
root_of_class world number name class =
    option_map_or (stands.Root number) (class_named (class_number world.facts.names class) name (pred_shapes world)) stands.Nothing

-- the root of this number, whose label is declared there and means this
abbrev pub root_stand : World → ℕ → Declared → Option Denoted → Stand
root_stand world number declared meant =
    option_map_or (λ name. option_map_or (root_of_class world number name.text) (token_class meant) stands.Nothing)
    (option_and_then asked_name (decl_of_name world.facts.program declared)) stands.Nothing

-- what the object's name of this number stands for, which is declared as one of this class
abbrev pub object_stand : World → ℕ → ℕ → Stand
object_stand world entry class =
    option_map_or (λ value. stands.Value (terms.Lit value) values.Object class)
    (made_object (slice_get world.named_objects entry)) stands.Nothing

-- what the name of this number and sort stands for, which means this, behind so many globals and roots
abbrev pub sort_stand : World → ℕ → ℕ → ℕ → Declared → Option Denoted → Sort → Stand
sort_stand world entry globals roots declared meant (sorts.Member of place) =
    stands.Value (terms.Lit (pos place)) (values.Enum of) 0
sort_stand world entry globals roots declared meant sorts.Global =
    stands.Value (terms.Global globals) (denoted_kind meant) (denoted_class world meant)
sort_stand world entry globals roots declared meant sorts.Object = object_stand world entry (denoted_class world meant)
sort_stand world entry globals roots declared meant sorts.Root = root_stand world roots declared meant
sort_stand world entry globals roots declared meant sorts.Forward = stands.Class (class_number world.facts.names (meanings.Entry entry))
sort_stand world entry globals roots declared meant sorts.Body = stands.Class (class_number world.facts.names (meanings.Entry entry))
sort_stand world entry globals roots declared meant sort = stands.Nothing

-- what the name of this number stands for
abbrev pub name_stand : World → ℕ → ℕ → ℕ → Declared → Stand
name_stand world entry globals roots declared =
    sort_stand world entry globals roots declared (file_denoted world.facts declared.name) declared.sort

-- the same, if nothing is declared under the name before
abbrev pub stand_if_first : World → ℕ → ℕ → ℕ → Declared → List Stand
stand_if_first world entry globals roots declared =
    if is_first world.facts.names entry declared then name_stand world entry globals roots declared ∷ [] else []

-- what these names stand for, of which the first has this number, each where it is declared first
abbrev pub scope_stands : World → ℕ → ℕ → ℕ → List Declared → List Stand
scope_stands world entry globals roots [] = []
scope_stands world entry globals roots (declared ∷ more) =
    stand_if_first world entry globals roots declared
    ++ scope_stands world (entry + 1) (if is_global_sort declared.sort then globals + 1 else globals)
    (if is_root_sort declared.sort then roots + 1 else roots) more

-- what a variable may be whose type is the name of this number and sort
abbrev pub sort_shape : World → ℕ → Sort → Option Shape
sort_shape world entry (sorts.Enum number) = Some (shape_with world (record { kind = kinds.Enum number; extent = extents.Whole }))
sort_shape world entry sorts.Typedef = option_map (shape_with world) (typedef_meaning world.facts.known entry)
sort_shape world entry sort = None

-- the same, if nothing is declared under the name before
abbrev pub type_if_first : World → ℕ → Declared → List (Option Shape)
type_if_first world entry declared =
    if is_first world.facts.names entry declared then sort_shape world entry declared.sort ∷ [] else []

-- what variables may be whose types are these names, of which the first has this number, each where it is declared first
abbrev pub scope_types : World → ℕ → List Declared → List (Option Shape)
scope_types world entry [] = []
scope_types world entry (declared ∷ more) =
    type_if_first world entry declared ++ scope_types world (entry + 1) more

-- what is known where the rules of a program are unrolled
abbrev pub lexicon_of : World → Lexicon
lexicon_of world = record {
  classes = class_shapes world;
  populations = populations world.facts world.objects;
  preds = pred_shapes world;
  scope = scope_stands world 0 0 0 world.facts.names;
  types = scope_types world 0 world.facts.names;
}
