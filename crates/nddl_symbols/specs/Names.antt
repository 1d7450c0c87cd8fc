-- The names that declarations give to the scope of the files.
use Rattle.std.specs.Prelude.{ℕ, ◌+◌, Bool, true, false, ◌||◌, ◌&&◌, List, [], ◌∷◌, ◌++◌, Option, Some, None}
use Rattle.std.specs.Prelude.{codes, if◌then◌else◌}
use Rattle.std.specs.Str.{bytes_eq}
use Rattle.nddl_ast.specs.declared.declaration.Decl.{Decl}
use Rattle.nddl_ast.specs.declared.declaration.Decl.TheVariants as decls
use Rattle.nddl_ast.specs.declared.expression.BaseType.{BaseType}
use Rattle.nddl_ast.specs.declared.expression.BaseType.TheVariants as bases
use Rattle.nddl_ast.specs.declared.expression.Bounds.{Bounds}
use Rattle.nddl_ast.specs.declared.expression.Bounds.TheVariants as bounds
use Rattle.nddl_ast.specs.declared.expression.Init.{Init}
use Rattle.nddl_ast.specs.declared.expression.Init.TheVariants as inits
use Rattle.nddl_ast.specs.declared.expression.Type as types
use Rattle.nddl_ast.specs.declared.name.Name.{Name}
use Rattle.nddl_ast.specs.declared.statement.Variable.{Variable}
use Rattle.nddl_symbols.specs.declared.declared.Declared.{Declared}
use Rattle.nddl_symbols.specs.declared.declared.Sort.{Sort}
use Rattle.nddl_symbols.specs.declared.declared.Sort.TheVariants as sorts
use Rattle.nddl_symbols.specs.Builtin.{is_config_name}

-- it is a class
abbrev pub is_class_sort : Sort → Bool
is_class_sort sorts.Forward = true
is_class_sort sorts.Body = true
is_class_sort sort = false

-- it is a class with its members
abbrev pub is_body_sort : Sort → Bool
is_body_sort sorts.Body = true
is_body_sort sort = false

-- it is a global variable
abbrev pub is_global_sort : Sort → Bool
is_global_sort sorts.Global = true
is_global_sort sort = false

-- it is a posted token
abbrev pub is_root_sort : Sort → Bool
is_root_sort sorts.Root = true
is_root_sort sort = false

-- they are the settings of a search
abbrev pub is_config_sort : Sort → Bool
is_config_sort sorts.Config = true
is_config_sort sort = false

-- the name as the declaration of this number declares it
abbrev pub declared_as : ℕ → Name → Sort → Declared
declared_as number name sort =
    record { name = name.text; place = record { decl = number; at = name.at }; sort = sort }

-- the members of the enum of this number, from this place in it on
abbrev pub declared_members : ℕ → ℕ → ℕ → List Name → List Declared
declared_members number of place [] = []
declared_members number of place (name ∷ names) =
    declared_as number name (sorts.Member of place) ∷ declared_members number of (place + 1) names

-- the word posts a token
abbrev pub is_posting_word : List ℕ → Bool
is_posting_word word =
    bytes_eq word (codes "goal") || (bytes_eq word (codes "rejectable") || bytes_eq word (codes "fact"))

-- nothing restricts the type
abbrev pub is_unbounded : Bounds → Bool
is_unbounded bounds.All = true
is_unbounded bound = false

-- the type is written `PlannerConfig`
abbrev pub is_config_type : BaseType → Bounds → Bool
is_config_type (bases.Named name) bound = is_config_name name.text && is_unbounded bound
is_config_type base bound = false

-- what a variable is that begins as this
abbrev pub sort_of_init : types.Type → Option Init → Sort
sort_of_init type None = sorts.Global
sort_of_init type (Some (inits.Expr expr)) = sorts.Global
sort_of_init type (Some (inits.New creation)) =
    if is_config_name creation.class.text && is_config_type type.base type.bounds then sorts.Config else sorts.Object

-- what a variable of the file is: a global variable, an object that is made by `new`, or the settings of a search
abbrev pub sort_of_variable : Variable → Sort
sort_of_variable variable = sort_of_init variable.declared variable.init

-- the names that the declaration of this number gives to the scope, where so many enums stand before it
abbrev pub names_in_decl : ℕ → ℕ → Decl → List Declared
names_in_decl number enums (decls.Enum at name members_at members) =
    declared_as number name (sorts.Enum enums) ∷ declared_members number enums 0 members
names_in_decl number enums (decls.Typedef at declared name) = declared_as number name sorts.Typedef ∷ []
names_in_decl number enums (decls.Forward at name) = declared_as number name sorts.Forward ∷ []
names_in_decl number enums (decls.Class at name parent members) = declared_as number name sorts.Body ∷ []
names_in_decl number enums (decls.Variable variable) =
    declared_as number variable.name (sort_of_variable variable) ∷ []
names_in_decl number enums (decls.Ask ask) =
    if is_posting_word ask.word.text then declared_as number ask.label sorts.Root ∷ [] else []
names_in_decl number enums decl = []

-- how many enums the declaration is
abbrev pub enums_in_decl : Decl → ℕ
enums_in_decl (decls.Enum at name members_at members) = 1
enums_in_decl decl = 0

-- the names that the declarations give to the scope, where the first has this number and so many enums stand before it
abbrev pub names_from : ℕ → ℕ → List Decl → List Declared
names_from number enums [] = []
names_from number enums (decl ∷ more) =
    names_in_decl number enums decl ++ names_from (number + 1) (enums + enums_in_decl decl) more

-- all names that the declarations of a program give to the scope, in their order
abbrev pub scope_names : List Decl → List Declared
scope_names program = names_from 0 0 program
