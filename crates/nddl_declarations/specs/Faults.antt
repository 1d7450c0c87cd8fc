-- What is wrong with the names and the types of a program.
use Rattle.std.specs.Prelude.{◌≡◌, ℕ, ◌+◌, nat_lt, List, [], ◌∷◌, ◌++◌, Option, None, length, if◌then◌else◌}
use Rattle.std.specs.Option.{option_map, option_and_then}
use Rattle.nddl_ast.specs.declared.declaration.Decl.{Decl}
use Rattle.nddl_ast.specs.declared.declaration.Decl.TheVariants as decls
use Rattle.nddl_ast.specs.declared.declaration.FileDecls.{FileDecls}
use Rattle.nddl_ast.specs.declared.fault.TextFault.{TextFault}
use Rattle.nddl_ast.specs.declared.fault.TextFault.TheVariants as texts
use Rattle.nddl_ast.specs.declared.kind.TextKind.TheVariants as faults
use Rattle.nddl_symbols.specs.Joined.{joined_decls, joined_sites}
use Rattle.nddl_symbols.specs.Place.{file_of_place}
use Rattle.nddl_symbols.specs.declared.fault.Fault.{Fault}
use Rattle.nddl_symbols.specs.Finding.{earliest_fault, faults_here}
use Rattle.nddl_symbols.specs.Names.{is_config_sort, scope_names, sort_of_variable}
use Rattle.nddl_symbols.specs.Scope.{fault_if, second_name_faults}
use Rattle.nddl_hierarchy.specs.Facts.{Facts}
use Rattle.nddl_hierarchy.specs.Lines.{circle_faults}
use Rattle.nddl_declarations.specs.Known.{AreFacts, all_type_faults}
use Rattle.nddl_declarations.specs.Classes.{class_faults}

-- what is wrong with the declaration of this number: an enum of too many members, a type, or a class
abbrev pub decl_faults : Facts → ℕ → Decl → List Fault
decl_faults facts number (decls.Enum at name members_at members) =
    faults_here number members_at (fault_if (nat_lt 4096 (length members)) faults.LimitMembers)
decl_faults facts number (decls.Typedef at declared name) = all_type_faults facts number declared
decl_faults facts number (decls.Class at name parent members) = class_faults facts number name parent members
decl_faults facts number (decls.Variable variable) =
    if is_config_sort (sort_of_variable variable) then [] else all_type_faults facts number variable.declared
decl_faults facts number decl = []

-- what is wrong with declarations, of which the first has this number
abbrev pub decls_faults : Facts → ℕ → List Decl → List Fault
decls_faults facts number [] = []
decls_faults facts number (decl ∷ more) = decl_faults facts number decl ++ decls_faults facts (number + 1) more

-- All that is wrong: names that are declared a second time, classes and typedefs that are their own ancestors, and what is
-- wrong with each declaration.
abbrev pub all_faults : Facts → List Fault
all_faults facts =
    second_name_faults facts.names 0 facts.names
    ++ (circle_faults facts.names facts.marked 0 facts.names ++ decls_faults facts 0 facts.program)

-- the fault is the earliest of all that is wrong with the names and types of a program, and there is none where nothing is
pub record IsFirstFault (program : List Decl) (fault : Option Fault) : Type 0 where
  pub facts : Facts
  pub are : AreFacts (scope_names program) program facts
  pub first : fault ≡ earliest_fault None (all_faults facts)

-- the fault as it is answered: with the name of its file, and its byte there
abbrev pub told_fault : List FileDecls → Fault → Option TextFault
told_fault files fault =
    option_map (λ file. texts.At fault.kind file.name fault.place.at)
    (file_of_place files (joined_sites files) fault.place)

-- what is answered of the names and types of files: their first fault, or nothing
pub record TellsFirst (files : List FileDecls) (answer : Option TextFault) : Type 0 where
  pub fault : Option Fault
  pub is_first : IsFirstFault (joined_decls files) fault
  pub told : answer ≡ option_and_then (told_fault files) fault
