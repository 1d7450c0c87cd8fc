-- What is wrong with a class.
use Rattle.std.specs.Prelude.{ℕ, false, List, [], ◌++◌, Option, Some, None, if◌then◌else◌}
use Rattle.std.specs.List.{flat_map}
use Rattle.nddl_ast.specs.declared.declaration.Member.{Member}
use Rattle.nddl_ast.specs.declared.kind.TextKind.{TextKind}
use Rattle.nddl_ast.specs.declared.kind.TextKind.TheVariants as faults
use Rattle.nddl_ast.specs.declared.name.Name.{Name}
use Rattle.nddl_symbols.specs.declared.declared.Declared.{Declared}
use Rattle.nddl_symbols.specs.declared.fault.Fault.{Fault}
use Rattle.nddl_symbols.specs.declared.scope.Meaning.{Meaning}
use Rattle.nddl_symbols.specs.declared.scope.Meaning.TheVariants as meanings
use Rattle.nddl_symbols.specs.Finding.{faults_here}
use Rattle.nddl_symbols.specs.Repeats.{repeated_faults}
use Rattle.nddl_symbols.specs.Scope.{is_class_at, meaning_of}
use Rattle.nddl_hierarchy.specs.Facts.{Facts}
use Rattle.nddl_hierarchy.specs.Inherited.{inherited_noted, member_names}
use Rattle.nddl_declarations.specs.Members.{constructors_faults, member_faults}

-- what is wrong with what means this as a class
abbrev pub class_meaning_fault : List Declared → Option Meaning → Option TextKind
class_meaning_fault names None = Some faults.Unknown
class_meaning_fault names (Some (meanings.BuiltIn number)) = None
class_meaning_fault names (Some (meanings.Entry entry)) = if is_class_at names entry then None else Some faults.WrongType

-- what is wrong with what a class extends
abbrev pub parent_faults : List Declared → ℕ → Option Name → List Fault
parent_faults names decl None = []
parent_faults names decl (Some name) = faults_here decl name.at (class_meaning_fault names (meaning_of names name.text))

-- All that is wrong with a class: with what it extends, with the names of its fields and predicates, of which none is one
-- that it has already, inside its members, and with its constructors.
abbrev pub class_faults : Facts → ℕ → Name → Option Name → List Member → List Fault
class_faults facts decl class parent members =
    parent_faults facts.names decl parent
    ++ (repeated_faults decl (inherited_noted facts parent) (member_names members)
    ++ (flat_map (member_faults facts decl) members
    ++ constructors_faults decl class false members))
