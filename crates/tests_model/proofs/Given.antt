-- Files that are read are those that a shelf gives.
use Rattle.std.proofs.Common.{◌≡◌, ℕ, List, sym, subst}
use Rattle.std.specs.Prelude.{Option, Ok}
use Rattle.eu_io.specs.declared.shelf.FileEntry.{FileEntry}
use Rattle.nddl_ast.specs.declared.declaration.FileDecls.{FileDecls}
use Rattle.nddl_parser.specs.Visits.{ReadsAll}
use Rattle.nddl_parser.specs.Language.{ReadsAs}
use Rattle.nddl_laws.specs.Given.{AreGiven}

-- what a shelf is read as is given
pub read_given : (shelf : Option (List FileEntry)) (name : List ℕ) (read files : List FileDecls)
    → ReadsAll ReadsAs shelf name (Ok read) → files ≡ read → AreGiven files
read_given shelf name read files reads is =
    let Reads : List FileDecls → Type 0 = λ some. ReadsAll ReadsAs shelf name (Ok some) in
    record { shelf = shelf; name = name; read = subst Reads (sym is) reads }
