-- The constructors of classes, and the line of classes to which an object belongs.
use Rattle.std.specs.Prelude.{ℕ, Bool, true, List, [], ◌∷◌, ◌++◌, Option, Some, None, map, slice_get, length}
use Rattle.std.specs.Prelude.{if◌then◌else◌}
use Rattle.std.specs.Option.{option_and_then, option_map_or}
use Rattle.nddl_ast.specs.declared.declaration.Decl.{Decl}
use Rattle.nddl_ast.specs.declared.declaration.Member.{Member}
use Rattle.nddl_ast.specs.declared.declaration.Member.TheVariants as members
use Rattle.nddl_ast.specs.declared.declaration.Set.{Set}
use Rattle.nddl_ast.specs.declared.declaration.Typed.{Typed}
use Rattle.nddl_ast.specs.declared.expression.Creation.{Creation}
use Rattle.nddl_symbols.specs.declared.declared.Declared.{Declared}
use Rattle.nddl_symbols.specs.declared.scope.Meaning.{Meaning}
use Rattle.nddl_symbols.specs.declared.scope.Meaning.TheVariants as meanings
use Rattle.nddl_symbols.specs.Scope.{meaning_of, named_number}
use Rattle.eu_forest.specs.Ancestors.{ancestry}
use Rattle.nddl_hierarchy.specs.Facts.{Facts}
use Rattle.nddl_hierarchy.specs.Decls.{members_of}
use Rattle.nddl_hierarchy.specs.Shorter.{adds_members, builds, is_constructor}
use Rattle.nddl_constructors.specs.Creations.{class_alone, is_wrong_count}
use Rattle.nddl_constructors.specs.Wants.{builtin_along, class_wants}

-- ---- constructors

-- the first constructor among members
abbrev pub own_constructor : List Member → Option Member
own_constructor [] = None
own_constructor (member ∷ more) = if is_constructor member then Some member else own_constructor more

-- the constructor of the class of this number, if it has one
abbrev pub constructor_at : List Declared → List Decl → ℕ → Option Member
constructor_at names program entry = own_constructor (members_of names program entry)

-- its formals
abbrev pub constructor_formals : Member → List Typed
constructor_formals (members.Constructor name formals sets) = formals
constructor_formals member = []

-- its body
abbrev pub constructor_sets : Member → List Set
constructor_sets (members.Constructor name formals sets) = sets
constructor_sets member = []

-- the number of the declaration in which the members of the class of this number stand
abbrev pub body_decl : List Declared → ℕ → ℕ
body_decl names entry =
    option_map_or (λ body. body.place.decl)
    (option_and_then (slice_get names)
    (option_and_then (λ declared. named_number true names declared.name) (slice_get names entry))) 0

-- ---- lines

abbrev pub entries_alone : List ℕ → List Meaning
entries_alone line = map meanings.Entry line

-- these classes, and behind them the built-in one of this number
abbrev pub behind_all : ℕ → List ℕ → List Meaning
behind_all number line = entries_alone line ++ meanings.BuiltIn number ∷ []

-- these classes, and behind them the built-in one that the topmost of them extends
abbrev pub with_builtin : Facts → List ℕ → List Meaning
with_builtin facts line = behind_all (builtin_along facts.names facts.program line) line

-- a class and what it leads up to, the built-in class at the end
abbrev pub line_up : Facts → Meaning → List Meaning
line_up facts (meanings.BuiltIn number) = meanings.BuiltIn number ∷ []
line_up facts (meanings.Entry entry) = with_builtin facts (ancestry facts.parents entry)

-- it is a built-in class, or its number passes the test
abbrev pub is_kept : (ℕ → Bool) → Meaning → Bool
is_kept test (meanings.BuiltIn number) = true
is_kept test (meanings.Entry entry) = test entry

-- the class adds members to a line, as any built-in one may
abbrev pub is_adding : Facts → Meaning → Bool
is_adding facts class = is_kept (adds_members facts.names facts.program) class

-- the class has a constructor, as each built-in one has
abbrev pub is_building : Facts → Meaning → Bool
is_building facts class = is_kept (builds facts.names facts.program) class

-- ---- `new`

-- the class, if it takes so many arguments
abbrev pub class_taking : Facts → ℕ → Meaning → Option Meaning
class_taking facts count class = if is_wrong_count (class_wants facts class) count then None else Some class

-- The class of which a `new` makes an object: it is there, and takes as many arguments as there are.
abbrev pub made_class : Facts → Creation → Option Meaning
made_class facts creation =
    option_and_then (class_taking facts (length creation.arguments))
    (class_alone facts.names (meaning_of facts.names creation.class.text))
