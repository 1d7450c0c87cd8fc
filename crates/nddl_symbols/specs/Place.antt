-- Places in a program, and which comes first.
use Rattle.std.specs.Prelude.{◌<◌, Option, List}
use Rattle.std.specs.List.{slice_get}
use Rattle.std.specs.Option.{option_and_then}
use Rattle.eu_name.specs.NameOrder.{ByNumber}
use Rattle.nddl_ast.specs.declared.declaration.FileDecls.{FileDecls}
use Rattle.nddl_symbols.specs.declared.place.Place.{Place}
use Rattle.nddl_symbols.specs.declared.site.Site.{Site}

-- a place comes first by its declaration, and within one by its byte
abbrev pub IsPlaceBefore : Place → Place → Type 0
IsPlaceBefore one other = ByNumber one.decl other.decl (one.at < other.at)

-- the file in which the place is, where the declarations stand at these sites
abbrev pub file_of_place : List FileDecls → List Site → Place → Option FileDecls
file_of_place files sites place = option_and_then (λ site. slice_get files site.file) (slice_get sites place.decl)
