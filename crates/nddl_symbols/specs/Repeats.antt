-- Names that are declared a second time where few names stand: as fields and predicates of a class, parameters or formals.
use Rattle.std.specs.Prelude.{ℕ, List, [], ◌∷◌, ◌++◌, is_some}
use Rattle.nddl_ast.specs.declared.kind.TextKind.TheVariants as kinds
use Rattle.nddl_ast.specs.declared.name.Name.{Name}
use Rattle.nddl_symbols.specs.declared.fault.Fault.{Fault}
use Rattle.nddl_symbols.specs.Finding.{faults_here}
use Rattle.eu_index.specs.Index.{Noted, noted_number, with_noted}
use Rattle.nddl_symbols.specs.Scope.{fault_if}

-- what is wrong with the name where these are declared before it
abbrev pub repeated_fault : ℕ → Noted → Name → List Fault
repeated_fault decl noted name = faults_here decl name.at (fault_if (is_some (noted_number noted name.text)) kinds.Twice)

-- what is wrong with names that are declared one after another, where others stand before them
abbrev pub repeated_faults : ℕ → Noted → List Name → List Fault
repeated_faults decl noted [] = []
repeated_faults decl noted (name ∷ more) =
    repeated_fault decl noted name ++ repeated_faults decl (with_noted noted name.text 0) more
