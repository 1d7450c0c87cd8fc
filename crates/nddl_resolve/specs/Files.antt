-- What the names of the files mean at the front of a path.
use Rattle.std.specs.Prelude.{ℕ, Bool, true, false, List, Option, Some, None, slice_get}
use Rattle.std.specs.Option.{option_and_then, option_map_or}
use Rattle.nddl_ast.specs.declared.declaration.Decl.{Decl}
use Rattle.nddl_ast.specs.declared.declaration.Decl.TheVariants as decls
use Rattle.nddl_ast.specs.declared.expression.Type as types
use Rattle.nddl_ast.specs.declared.name.Path.{Path}
use Rattle.nddl_ast.specs.declared.statement.Ask.{Ask}
use Rattle.nddl_symbols.specs.declared.declared.Declared.{Declared}
use Rattle.nddl_symbols.specs.declared.declared.Sort.{Sort}
use Rattle.nddl_symbols.specs.declared.declared.Sort.TheVariants as sorts
use Rattle.nddl_symbols.specs.declared.scope.Meaning.{Meaning}
use Rattle.nddl_symbols.specs.declared.scope.Meaning.TheVariants as meanings
use Rattle.nddl_symbols.specs.Scope.{meaning_of}
use Rattle.nddl_typeexpr.specs.declared.kind.TypeKind.TheVariants as kinds
use Rattle.nddl_hierarchy.specs.Decls.{decl_of_name}
use Rattle.nddl_hierarchy.specs.Facts.{Facts}
use Rattle.nddl_resolve.specs.declared.denoted.Denoted.{Denoted}
use Rattle.nddl_resolve.specs.declared.denoted.Denoted.TheVariants as denoted
use Rattle.nddl_resolve.specs.Fields.{type_value}
use Rattle.nddl_resolve.specs.Following.{asked_by, object_alone, or_faulty}

-- with which type a variable is declared
abbrev pub variable_type : Decl → Option types.Type
variable_type (decls.Variable variable) = Some variable.declared
variable_type decl = None

-- a value of the type with which the name is declared
abbrev pub declared_value : Facts → Bool → Declared → Denoted
declared_value facts constant declared =
    option_map_or (type_value facts.names facts.known constant)
    (option_and_then variable_type (decl_of_name facts.program declared)) denoted.Faulty

-- ---- what can have tokens

-- what the name of this number and sort means, if it is an object or a class
abbrev pub sort_owner : Facts → ℕ → Declared → Sort → Option Denoted
sort_owner facts entry declared sorts.Object = Some (object_alone (declared_value facts true declared))
sort_owner facts entry declared sorts.Forward = Some (denoted.Class (meanings.Entry entry))
sort_owner facts entry declared sorts.Body = Some (denoted.Class (meanings.Entry entry))
sort_owner facts entry declared sort = None

abbrev pub meaning_owner : Facts → Meaning → Option Denoted
meaning_owner facts (meanings.BuiltIn number) = Some (denoted.Class (meanings.BuiltIn number))
meaning_owner facts (meanings.Entry entry) =
    option_and_then (λ declared. sort_owner facts entry declared declared.sort) (slice_get facts.names entry)

-- the object or the class of this name
abbrev pub file_owner : Facts → List ℕ → Option Denoted
file_owner facts name = option_and_then (meaning_owner facts) (meaning_of facts.names name)

-- ---- labels of posted tokens

abbrev pub declared_ask : Decl → Option Ask
declared_ask (decls.Ask ask) = Some ask
declared_ask decl = None

-- the token that is posted by this path, of an object or a class
abbrev pub root_by : Facts → Path → Denoted
root_by facts path =
    option_map_or (λ owner. or_faulty (asked_by facts owner path)) (file_owner facts path.first.text) denoted.Faulty

-- the token whose label the name is
abbrev pub root_value : Facts → Declared → Denoted
root_value facts declared =
    option_map_or (λ ask. root_by facts ask.path) (option_and_then declared_ask (decl_of_name facts.program declared))
    denoted.Faulty

-- ---- any name

-- what the name of this number and sort means; enums, typedefs and settings aren't found here
abbrev pub sort_denoted : Facts → ℕ → Declared → Sort → Option Denoted
sort_denoted facts entry declared (sorts.Member of place) = Some (denoted.Value (kinds.Enum of) true)
sort_denoted facts entry declared sorts.Global = Some (declared_value facts false declared)
sort_denoted facts entry declared sorts.Root = Some (root_value facts declared)
sort_denoted facts entry declared sort = sort_owner facts entry declared sort

abbrev pub meaning_denoted : Facts → Meaning → Option Denoted
meaning_denoted facts (meanings.BuiltIn number) = Some (denoted.Class (meanings.BuiltIn number))
meaning_denoted facts (meanings.Entry entry) =
    option_and_then (λ declared. sort_denoted facts entry declared declared.sort) (slice_get facts.names entry)

-- what the name means at the front of a path, as one of the files
abbrev pub file_denoted : Facts → List ℕ → Option Denoted
file_denoted facts name = option_and_then (meaning_denoted facts) (meaning_of facts.names name)
