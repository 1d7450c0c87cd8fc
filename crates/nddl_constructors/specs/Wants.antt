-- Which arguments a class wants where an object of it is made.
use Rattle.std.specs.Prelude.{ℕ, ◌==◌, List, [], ◌∷◌, Option, Some, None, map, slice_get, if◌then◌else◌}
use Rattle.std.specs.Option.{option_and_then, option_map_or, option_or}
use Rattle.nddl_ast.specs.declared.declaration.Decl.{Decl}
use Rattle.nddl_ast.specs.declared.declaration.Member.{Member}
use Rattle.nddl_ast.specs.declared.declaration.Member.TheVariants as members
use Rattle.nddl_ast.specs.declared.declaration.Typed.{Typed}
use Rattle.nddl_symbols.specs.declared.declared.Declared.{Declared}
use Rattle.nddl_symbols.specs.declared.scope.Meaning.{Meaning}
use Rattle.nddl_symbols.specs.declared.scope.Meaning.TheVariants as meanings
use Rattle.nddl_typeexpr.specs.declared.kind.TypeKind.{TypeKind}
use Rattle.nddl_typeexpr.specs.declared.kind.TypeKind.TheVariants as kinds
use Rattle.nddl_typeexpr.specs.Bases.{base_kind}
use Rattle.nddl_hierarchy.specs.Ancestors.{above}
use Rattle.eu_forest.specs.Ancestors.{ancestry}
use Rattle.nddl_hierarchy.specs.Facts.{Facts}
use Rattle.nddl_hierarchy.specs.Decls.{members_of}

-- ---- formals

-- the formals of a constructor
abbrev pub member_formals : Member → Option (List Typed)
member_formals (members.Constructor name formals sets) = Some formals
member_formals member = None

-- those of the first constructor among members
abbrev pub own_formals : List Member → Option (List Typed)
own_formals [] = None
own_formals (member ∷ more) = option_or (member_formals member) (own_formals more)

-- A class without a constructor takes the arguments of what it extends: those of the first class of its line that has one.
abbrev pub line_formals : List Declared → List Decl → List ℕ → Option (List Typed)
line_formals names program [] = None
line_formals names program (entry ∷ more) =
    option_or (own_formals (members_of names program entry)) (line_formals names program more)

-- ---- built-in classes

-- a reusable wants its capacity, a reservoir the level at first, the lowest and the highest one
abbrev pub builtin_wants : ℕ → List (Option TypeKind)
builtin_wants number =
    if number == 2 then Some kinds.Int ∷ []
    else (if number == 3 then Some kinds.Int ∷ Some kinds.Int ∷ Some kinds.Int ∷ [] else [])

-- the number of what means this, if it is a built-in class, and else this one
abbrev pub builtin_or : ℕ → Option Meaning → ℕ
builtin_or other (Some (meanings.BuiltIn number)) = number
builtin_or other meaning = other

-- the built-in class that a class of the line extends; where none is said to, it is that of objects
abbrev pub builtin_along : List Declared → List Decl → List ℕ → ℕ
builtin_along names program [] = 0
builtin_along names program (entry ∷ more) =
    builtin_or (builtin_along names program more) (above names program entry)

-- ---- any class

-- of what the values of a formal are, if its type means something
abbrev pub formal_kind : Facts → Typed → Option TypeKind
formal_kind facts typed = base_kind facts.names facts.known typed.declared.base

-- which kinds of arguments a class with this line wants
abbrev pub line_wants : Facts → List ℕ → List (Option TypeKind)
line_wants facts line =
    option_map_or (map (formal_kind facts)) (line_formals facts.names facts.program line)
    (builtin_wants (builtin_along facts.names facts.program line))

-- which kinds of arguments a class wants
unfoldable pub class_wants : Facts → Meaning → List (Option TypeKind)
class_wants facts (meanings.BuiltIn number) = builtin_wants number
class_wants facts (meanings.Entry entry) = line_wants facts (ancestry facts.parents entry)

-- the kind that is wanted at this place, if it is known
abbrev pub wanted_at : List (Option TypeKind) → ℕ → Option TypeKind
wanted_at wants number = option_and_then (λ kind. kind) (slice_get wants number)
