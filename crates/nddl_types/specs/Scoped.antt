-- The names of the scope of a program's files, as a table has them.
use Rattle.std.specs.Prelude.{ℕ, ◌+◌, List, [], ◌∷◌, ◌++◌, if◌then◌else◌}
use Rattle.std.specs.Option.{option_map_or}
use Rattle.nddl_ast.specs.declared.declaration.FileDecls.{FileDecls}
use Rattle.nddl_symbols.specs.declared.site.Site.{Site}
use Rattle.nddl_symbols.specs.Place.{file_of_place}
use Rattle.nddl_symbols.specs.declared.declared.Declared.{Declared}
use Rattle.nddl_symbols.specs.declared.declared.Sort.{Sort}
use Rattle.nddl_symbols.specs.declared.declared.Sort.TheVariants as sorts
use Rattle.nddl_types.specs.declared.table.Named.{Named}
use Rattle.nddl_types.specs.declared.table.NamedKind.{NamedKind}
use Rattle.nddl_types.specs.declared.table.NamedKind.TheVariants as kinds
use Rattle.nddl_types.specs.Classes.{is_first}

-- what a name of this sort is
abbrev pub named_kind : Sort → NamedKind
named_kind (sorts.Enum number) = kinds.Enum
named_kind (sorts.Member of place) = kinds.Member
named_kind sorts.Typedef = kinds.Typedef
named_kind sorts.Forward = kinds.Class
named_kind sorts.Body = kinds.Class
named_kind sorts.Global = kinds.Global
named_kind sorts.Object = kinds.Object
named_kind sorts.Root = kinds.Root
named_kind sorts.Config = kinds.Config

-- the name, with the file in which it is declared and its byte there
abbrev pub named_in : Declared → FileDecls → Named
named_in declared file =
    record { name = declared.name; kind = named_kind declared.sort; file = file.name; at = declared.place.at }

-- the name, if nothing is declared under it before
abbrev pub named_at : List FileDecls → List Site → List Declared → ℕ → Declared → List Named
named_at files sites names number declared =
    if is_first names number declared
    then option_map_or (λ file. named_in declared file ∷ []) (file_of_place files sites declared.place) []
    else []

-- these names, of which the first has this number, each where it is declared first
abbrev pub named_from : List FileDecls → List Site → List Declared → ℕ → List Declared → List Named
named_from files sites names number [] = []
named_from files sites names number (declared ∷ more) =
    named_at files sites names number declared ++ named_from files sites names (number + 1) more
