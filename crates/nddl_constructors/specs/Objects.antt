-- What is wrong with the text of what makes the objects of a program, before any is made.
use Rattle.std.specs.Prelude.{ℕ, ◌+◌, ◌==◌, Bool, true, false, ◌||◌, ◌&&◌, not, nat_lt, List, [], ◌∷◌, ◌++◌}
use Rattle.std.specs.Prelude.{length, Option, Some, codes, if◌then◌else◌}
use Rattle.std.specs.List.{position_from}
use Rattle.std.specs.Option.{option_map_or}
use Rattle.std.specs.Str.{bytes_eq}
use Rattle.nddl_ast.specs.declared.declaration.Decl.{Decl}
use Rattle.nddl_ast.specs.declared.declaration.Decl.TheVariants as decls
use Rattle.nddl_ast.specs.declared.expression.Creation.{Creation}
use Rattle.nddl_ast.specs.declared.expression.Expr.{Expr}
use Rattle.nddl_ast.specs.declared.expression.Init.{Init}
use Rattle.nddl_ast.specs.declared.expression.Init.TheVariants as inits
use Rattle.nddl_ast.specs.declared.kind.TextKind.{TextKind}
use Rattle.nddl_ast.specs.declared.kind.TextKind.TheVariants as faults
use Rattle.nddl_ast.specs.declared.name.Name.{Name}
use Rattle.nddl_ast.specs.declared.statement.Variable.{Variable}
use Rattle.nddl_symbols.specs.declared.fault.Fault.{Fault}
use Rattle.nddl_symbols.specs.declared.scope.Meaning.{Meaning}
use Rattle.nddl_symbols.specs.Finding.{faults_here}
use Rattle.nddl_symbols.specs.Names.{is_config_sort, sort_of_variable}
use Rattle.nddl_symbols.specs.Scope.{fault_if, meaning_of}
use Rattle.nddl_typeexpr.specs.declared.kind.TypeKind.{TypeKind}
use Rattle.nddl_typeexpr.specs.declared.kind.TypeKind.TheVariants as kinds
use Rattle.nddl_typeexpr.specs.Bases.{base_kind}
use Rattle.nddl_hierarchy.specs.Facts.{Facts}
use Rattle.nddl_resolve.specs.Paths.{Surroundings, expr_denoted}
use Rattle.nddl_resolve.specs.Following.{understood_faults}
use Rattle.nddl_constructors.specs.Bodies.{named_bodies_faults}
use Rattle.nddl_constructors.specs.Constants.{value_faults}
use Rattle.nddl_constructors.specs.Creations.{class_alone, set_to_faults, is_of_class}
use Rattle.nddl_constructors.specs.Formals.{around_formals}

-- ---- `close();`

abbrev pub is_alone : List Name → Bool
is_alone [] = true
is_alone (name ∷ more) = false

-- the making of objects ends here
abbrev pub is_close : Decl → Bool
is_close (decls.Call call) = bytes_eq call.path.first.text (codes "close") && is_alone call.path.rest
is_close decl = false

-- the number of the first declaration that ends it
abbrev pub first_close : List Decl → Option ℕ
first_close program = position_from is_close 0 program

-- it has ended before the declaration of this number
abbrev pub is_closed : Option ℕ → ℕ → Bool
is_closed closed decl = option_map_or (λ number. nat_lt number decl) closed false

-- ---- objects

-- the class that is made isn't the one that is declared, nor one under it
abbrev pub is_foreign_class : Facts → Option TypeKind → Option Meaning → Bool
is_foreign_class facts (Some (kinds.Object class)) (Some made) = not (is_of_class facts class made)
is_foreign_class facts kind made = false

abbrev pub foreign_fault : Facts → Option TypeKind → Creation → Option TextKind
foreign_fault facts kind creation =
    fault_if (is_foreign_class facts kind (class_alone facts.names (meaning_of facts.names creation.class.text)))
    faults.NotInDomain

-- all that is wrong with a `new` outside of constructors, behind a variable of this kind
abbrev pub object_faults : Facts → ℕ → Option TypeKind → Creation → List Fault
object_faults facts decl kind creation =
    set_to_faults facts (around_formals []) decl kind (inits.New creation)
    ++ faults_here decl creation.class.at (foreign_fault facts kind creation)

-- ---- the settings of a search

-- what is wrong with the argument of this number: the first three are whole numbers, and of others the names are there
abbrev pub setting_faults : Facts → Surroundings → ℕ → ℕ → Expr → List Fault
setting_faults facts around decl number expr =
    if nat_lt number 3 then value_faults facts around decl (Some kinds.Int) expr
    else understood_faults decl (expr_denoted facts around expr)

abbrev pub settings_faults_from : Facts → Surroundings → ℕ → ℕ → List Expr → List Fault
settings_faults_from facts around decl number [] = []
settings_faults_from facts around decl number (expr ∷ more) =
    setting_faults facts around decl number expr ++ settings_faults_from facts around decl (number + 1) more

-- there are neither three nor four
abbrev pub is_wrong_number : ℕ → Bool
is_wrong_number count = not (count == 3 || count == 4)

-- all that is wrong with the settings as they are written
abbrev pub settings_faults : Facts → ℕ → Creation → List Fault
settings_faults facts decl creation =
    faults_here decl creation.class.at (fault_if (is_wrong_number (length creation.arguments)) faults.WrongCount)
    ++ settings_faults_from facts (around_formals []) decl 0 creation.arguments

-- ---- the program

-- all that is wrong with what a variable of the files is made by
abbrev pub creation_of_faults : Facts → ℕ → Variable → Creation → List Fault
creation_of_faults facts decl variable creation =
    if is_config_sort (sort_of_variable variable) then settings_faults facts decl creation
    else object_faults facts decl (base_kind facts.names facts.known variable.declared.base) creation

-- the same, where the making of objects ends at this declaration
abbrev pub new_faults : Facts → Option ℕ → ℕ → Variable → Creation → List Fault
new_faults facts closed decl variable creation =
    faults_here decl creation.at (fault_if (is_closed closed decl) faults.Closed)
    ++ creation_of_faults facts decl variable creation

-- the same, of what stands behind the variable
abbrev pub variable_faults_by : Facts → Option ℕ → ℕ → Variable → Option Init → List Fault
variable_faults_by facts closed decl variable (Some (inits.New creation)) =
    new_faults facts closed decl variable creation
variable_faults_by facts closed decl variable init = []

-- all that is wrong with how objects are made in the declaration of this number
abbrev pub writing_faults : Facts → Option ℕ → ℕ → Decl → List Fault
writing_faults facts closed decl (decls.Class at name parent members) = named_bodies_faults facts decl name.text members
writing_faults facts closed decl (decls.Variable variable) = variable_faults_by facts closed decl variable variable.init
writing_faults facts closed decl other = []

abbrev pub writing_faults_from : Facts → Option ℕ → ℕ → List Decl → List Fault
writing_faults_from facts closed number [] = []
writing_faults_from facts closed number (decl ∷ more) =
    writing_faults facts closed number decl ++ writing_faults_from facts closed (number + 1) more

-- All that is wrong with the text of what makes the objects of a program: with the bodies of constructors, and with each
-- `new` outside of them.
abbrev pub written_faults : Facts → List Fault
written_faults facts = writing_faults_from facts (first_close facts.program) 0 facts.program
