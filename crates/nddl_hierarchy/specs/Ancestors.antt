-- What classes lead up to.
use Rattle.std.specs.Prelude.{ℕ, ◌==◌, Bool, false, ◌||◌, ◌&&◌, not, List, [], Option, Some, None, slice_get}
use Rattle.std.specs.List.{list_any, flat_map}
use Rattle.std.specs.Option.{option_map_or, option_and_then}
use Rattle.eu_forest.specs.Ancestors.{ancestry}
use Rattle.nddl_ast.specs.declared.declaration.Decl.{Decl}
use Rattle.nddl_ast.specs.declared.declaration.Decl.TheVariants as decls
use Rattle.nddl_ast.specs.declared.expression.Bounds.{Bounds}
use Rattle.nddl_ast.specs.declared.expression.Bounds.TheVariants as bounds
use Rattle.nddl_ast.specs.declared.expression.Init.{Init}
use Rattle.nddl_ast.specs.declared.expression.Init.TheVariants as inits
use Rattle.nddl_ast.specs.declared.expression.Value.{Value}
use Rattle.nddl_ast.specs.declared.expression.Value.TheVariants as values
use Rattle.nddl_ast.specs.declared.kind.TextKind.TheVariants as faults
use Rattle.nddl_ast.specs.declared.name.Name.{Name}
use Rattle.nddl_ast.specs.Places.{value_place}
use Rattle.nddl_symbols.specs.declared.declared.Declared.{Declared}
use Rattle.nddl_symbols.specs.declared.declared.Sort.{Sort}
use Rattle.nddl_symbols.specs.declared.declared.Sort.TheVariants as sorts
use Rattle.nddl_symbols.specs.declared.fault.Fault.{Fault}
use Rattle.nddl_symbols.specs.declared.scope.Meaning.{Meaning}
use Rattle.nddl_symbols.specs.declared.scope.Meaning.TheVariants as meanings
use Rattle.nddl_symbols.specs.Finding.{faults_here}
use Rattle.nddl_symbols.specs.Scope.{fault_if, is_class_at, meaning_of}
use Rattle.nddl_typeexpr.specs.declared.kind.TypeKind.{TypeKind}
use Rattle.nddl_typeexpr.specs.declared.kind.TypeKind.TheVariants as kinds
use Rattle.nddl_hierarchy.specs.Decls.{declaration_with_body, class_parent, decl_of_name}

-- what the class of this number extends
abbrev pub above : List Declared → List Decl → ℕ → Option Meaning
above names program entry =
    option_and_then
    (λ declared. option_and_then (λ name. meaning_of names name.text)
    (option_and_then class_parent (declaration_with_body names program declared)))
    (slice_get names entry)

abbrev pub is_same_meaning : Meaning → Meaning → Bool
is_same_meaning (meanings.BuiltIn one) (meanings.BuiltIn other) = one == other
is_same_meaning (meanings.Entry one) (meanings.Entry other) = one == other
is_same_meaning one other = false

-- it means this
abbrev pub means : Meaning → Option Meaning → Bool
means one None = false
means one (Some other) = is_same_meaning one other

-- a class of the line extends this one
abbrev pub is_extended : List Declared → List Decl → Meaning → List ℕ → Bool
is_extended names program class line = list_any (λ entry. means class (above names program entry)) line

-- each class is under the built-in class of objects
abbrev pub is_every : Meaning → Bool
is_every class = is_same_meaning class (meanings.BuiltIn 0)

-- the class of this number is the other one, or under it
abbrev pub is_under : List Declared → List Decl → List (Option ℕ) → Meaning → ℕ → Bool
is_under names program parents class entry =
    is_every class || (is_same_meaning class (meanings.Entry entry) || is_extended names program class (ancestry parents entry))

-- ---- objects in written sets

-- the class behind `new`
abbrev pub made_of_init : Option Init → Option Name
made_of_init None = None
made_of_init (Some (inits.Expr expr)) = None
made_of_init (Some (inits.New creation)) = Some creation.class

abbrev pub made_in : Decl → Option Name
made_in (decls.Variable variable) = made_of_init variable.init
made_in decl = None

-- the object that a value names
abbrev pub object_of_sort : Declared → Sort → Option Declared
object_of_sort declared sorts.Object = Some declared
object_of_sort declared sort = None

abbrev pub object_of_meaning : List Declared → Meaning → Option Declared
object_of_meaning names (meanings.BuiltIn number) = None
object_of_meaning names (meanings.Entry entry) =
    option_and_then (λ declared. object_of_sort declared declared.sort) (slice_get names entry)

abbrev pub object_of : List Declared → Value → Option Declared
object_of names (values.Name name) = option_and_then (object_of_meaning names) (meaning_of names name.text)
object_of names (values.Literal literal) = None

-- the class of which the object is made
abbrev pub class_of_object : List Declared → List Decl → Declared → Option Meaning
class_of_object names program declared =
    option_and_then (λ name. meaning_of names name.text) (option_and_then made_in (decl_of_name program declared))

-- What is of this class isn't of the other one. What stands above the class counts as far as it is there, whatever is wrong
-- further up.
abbrev pub is_outside : List Declared → List Decl → List (Option ℕ) → Meaning → Option Meaning → Bool
is_outside names program parents class None = false
is_outside names program parents class (Some (meanings.BuiltIn number)) =
    not (is_every class || is_same_meaning class (meanings.BuiltIn number))
is_outside names program parents class (Some (meanings.Entry entry)) =
    is_class_at names entry && not (is_under names program parents class entry)

-- the value names an object of another class
abbrev pub is_foreign : List Declared → List Decl → List (Option ℕ) → Meaning → Value → Bool
is_foreign names program parents class value =
    option_map_or (λ object. is_outside names program parents class (class_of_object names program object))
    (object_of names value) false

-- what is wrong with the objects in a set of this class
abbrev pub foreign_faults : List Declared → List Decl → List (Option ℕ) → ℕ → Meaning → List Value → List Fault
foreign_faults names program parents decl class values =
    flat_map
    (λ value. faults_here decl (value_place value)
    (fault_if (is_foreign names program parents class value) faults.NotInDomain))
    values

-- what is wrong with the objects in the bounds of a type of this kind
abbrev pub objects_faults : List Declared → List Decl → List (Option ℕ) → ℕ → Option TypeKind → Bounds → List Fault
objects_faults names program parents decl (Some (kinds.Object class)) (bounds.Set at values) =
    foreign_faults names program parents decl class values
objects_faults names program parents decl kind bound = []
