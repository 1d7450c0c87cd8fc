-- The includes of a file, and which of them are followed.
use Rattle.std.specs.Prelude.{◌≡◌, ℕ, Bool, ◌||◌, List, Option, Some, None, Result, Ok, Err, codes, bytes_eq, IsUtf8, ⊤}
use Rattle.std.specs.List.{filter_map, list_any}
use Rattle.nddl_ast.specs.declared.declaration.Decl.{Decl}
use Rattle.nddl_ast.specs.declared.declaration.Decl.TheVariants as decls
use Rattle.nddl_ast.specs.declared.declaration.FileDecls.{FileDecls}
use Rattle.nddl_parser.specs.declared.include.Ask.{Ask}
use Rattle.nddl_parser.specs.declared.include.Include.{Include}
use Rattle.nddl_parser.specs.declared.fault.ReadAllFault.{ReadAllFault}
use Rattle.nddl_parser.specs.declared.fault.ReadAllFault.TheVariants as all

-- the include that the declaration is, if it is one
abbrev pub include_in : Decl → Option Include
include_in (decls.Include at file file_at) = Some (record { name = file; at = at })
include_in decl = None

-- the includes among declarations, in their order
abbrev pub includes_of : List Decl → List Include
includes_of all_decls = filter_map include_in all_decls

-- what such a file would declare is built in
abbrev pub is_built_in : List ℕ → Bool
is_built_in name = bytes_eq name (codes "Plasma.nddl") || bytes_eq name (codes "PlannerConfig.nddl")

-- a file of this name was read
abbrev pub is_taken : List ℕ → List FileDecls → Bool
is_taken name read = list_any (λ file. bytes_eq file.name name) read

-- an include of this name is passed over
abbrev pub is_skipped : List ℕ → List FileDecls → Bool
is_skipped name read = is_built_in name || is_taken name read

-- what the include in this file asks for
abbrev pub ask_in : List ℕ → Include → Ask
ask_in file include = record { name = include.name; file = file; at = include.at }

-- what is asked for, or that the name isn't text, and so that of no file
abbrev pub NamesText : List ℕ → Include → Result Ask ReadAllFault → Type 0
NamesText file include (Ok ask) = (ask ≡ ask_in file include) × IsUtf8 include.name
NamesText file include (Err (all.Absent at_file at)) = (at_file ≡ file) × (at ≡ include.at) × ¬ (IsUtf8 include.name)
NamesText file include (Err all.Memory) = ⊤
NamesText file include (Err fault) = ⊥
