-- What is wrong with `new` and what stands behind it.
use Rattle.std.specs.Prelude.{ℕ, ◌==◌, Bool, true, false, ◌||◌, not, List, [], ◌++◌, Option, Some, None, length, is_none}
use Rattle.std.specs.Prelude.{if◌then◌else◌}
use Rattle.std.specs.Option.{option_or}
use Rattle.nddl_ast.specs.declared.expression.Creation.{Creation}
use Rattle.nddl_ast.specs.declared.expression.Init.{Init}
use Rattle.nddl_ast.specs.declared.expression.Init.TheVariants as inits
use Rattle.nddl_ast.specs.declared.kind.TextKind.{TextKind}
use Rattle.nddl_ast.specs.declared.kind.TextKind.TheVariants as faults
use Rattle.nddl_symbols.specs.declared.declared.Declared.{Declared}
use Rattle.nddl_symbols.specs.declared.fault.Fault.{Fault}
use Rattle.nddl_symbols.specs.declared.scope.Meaning.{Meaning}
use Rattle.nddl_symbols.specs.declared.scope.Meaning.TheVariants as meanings
use Rattle.nddl_symbols.specs.Finding.{faults_here}
use Rattle.nddl_symbols.specs.Scope.{fault_if, meaning_of}
use Rattle.nddl_typeexpr.specs.declared.kind.TypeKind.{TypeKind}
use Rattle.nddl_typeexpr.specs.declared.kind.TypeKind.TheVariants as kinds
use Rattle.nddl_hierarchy.specs.Ancestors.{is_every, is_same_meaning, is_under}
use Rattle.nddl_hierarchy.specs.Facts.{Facts}
use Rattle.nddl_declarations.specs.Classes.{class_meaning_fault}
use Rattle.nddl_resolve.specs.Paths.{Surroundings}
use Rattle.nddl_constructors.specs.Constants.{constants_faults, value_faults}
use Rattle.nddl_constructors.specs.Wants.{class_wants}

-- ---- the class

-- what this means, if it is a class
abbrev pub class_alone : List Declared → Option Meaning → Option Meaning
class_alone names meaning = if is_none (class_meaning_fault names meaning) then meaning else None

-- the arguments that are wanted of what means this; of what isn't there, none
abbrev pub meaning_wants : Facts → Option Meaning → List (Option TypeKind)
meaning_wants facts None = []
meaning_wants facts (Some class) = class_wants facts class

-- what is of the second class is of the first one, too
abbrev pub is_of_class : Facts → Meaning → Meaning → Bool
is_of_class facts class (meanings.BuiltIn number) = is_every class || is_same_meaning class (meanings.BuiltIn number)
is_of_class facts class (meanings.Entry entry) = is_under facts.names facts.program facts.parents class entry

-- ---- `new`

-- the number of arguments isn't the one that is wanted
abbrev pub is_wrong_count : List (Option TypeKind) → ℕ → Bool
is_wrong_count wants count = not (length wants == count)

-- what is wrong with what stands behind `new`, where it means this, and has so many arguments of those that are wanted
abbrev pub made_fault : List Declared → Option Meaning → List (Option TypeKind) → ℕ → Option TextKind
made_fault names meaning wants count =
    option_or (class_meaning_fault names meaning) (fault_if (is_wrong_count wants count) faults.WrongCount)

-- the same, of what means this
abbrev pub creation_faults_by : Facts → Surroundings → ℕ → Creation → Option Meaning → List (Option TypeKind) → List Fault
creation_faults_by facts around decl creation meaning wants =
    faults_here decl creation.class.at (made_fault facts.names meaning wants (length creation.arguments))
    ++ constants_faults facts around decl wants 0 creation.arguments

-- All that is wrong with a `new`: it names a class, and its arguments are constants, as many as are wanted and of these kinds.
unfoldable pub creation_faults : Facts → Surroundings → ℕ → Creation → List Fault
creation_faults facts around decl creation =
    let meaning = meaning_of facts.names creation.class.text in
    creation_faults_by facts around decl creation meaning (meaning_wants facts (class_alone facts.names meaning))

-- something else than an object is wanted
abbrev pub is_no_object : Option TypeKind → Bool
is_no_object None = false
is_no_object (Some (kinds.Object class)) = false
is_no_object (Some kind) = true

-- All that is wrong with what stands behind `=`, where this is wanted.
abbrev pub set_to_faults : Facts → Surroundings → ℕ → Option TypeKind → Init → List Fault
set_to_faults facts around decl wanted (inits.Expr expr) = value_faults facts around decl wanted expr
set_to_faults facts around decl wanted (inits.New creation) =
    faults_here decl creation.at (fault_if (is_no_object wanted) faults.WrongType)
    ++ creation_faults facts around decl creation
