-- That what is wrong is told with its file.
use Rattle.std.specs.Prelude.{◌≡◌, List, Some}
use Rattle.nddl_ast.specs.declared.declaration.FileDecls.{FileDecls}
use Rattle.nddl_symbols.specs.Joined.{joined_decls, joined_sites}
use Rattle.nddl_symbols.specs.Place.{file_of_place}
use Rattle.nddl_symbols.specs.declared.fault.Fault.{Fault}
use Rattle.nddl_declarations.specs.Faults.{IsFirstFault}

-- what is wrong first with files stands in one of them
abbrev pub FaultsHaveFiles : Type 0
FaultsHaveFiles = (files : List FileDecls) (fault : Fault) → IsFirstFault (joined_decls files) (Some fault)
    → (file : FileDecls) × (file_of_place files (joined_sites files) fault.place ≡ Some file)
