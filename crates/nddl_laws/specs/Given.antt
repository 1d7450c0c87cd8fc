-- Files that a shelf gives, and what is so of their joined declarations.
use Rattle.std.specs.Prelude.{ℕ, List, Option, Ok, All, AllPairs, Contains}
use Rattle.eu_io.specs.declared.shelf.FileEntry.{FileEntry}
use Rattle.nddl_ast.specs.declared.declaration.FileDecls.{FileDecls}
use Rattle.nddl_parser.specs.Visits.{ReadsAll}
use Rattle.nddl_parser.specs.Language.{ReadsAs}
use Rattle.nddl_symbols.specs.declared.site.Site.{Site}
use Rattle.nddl_symbols.specs.Joined.{joined_sites, IsInFileOrder, IsOwnSite}

-- some shelf gives these files where one of them is asked for: they are what it is read as with those that it includes
pub record AreGiven (files : List FileDecls) : Type 0 where
  pub shelf : Option (List FileEntry)
  pub name : List ℕ
  pub read : ReadsAll ReadsAs shelf name (Ok files)

-- the joined declarations are those of all files, each once, but for the includes; those of one file are in its order
pub record StandOnce (files : List FileDecls) : Type 0 where
  pub only : All (IsOwnSite files) (joined_sites files)
  pub each : (site : Site) → IsOwnSite files site → Contains (joined_sites files) site
  pub ordered : AllPairs IsInFileOrder (joined_sites files)
