-- Each declaration of files that a shelf gives stands once among the joined ones.
use Rattle.std.proofs.Common.{◌≡◌, ◌<◌, List, [], length, sym, ◌∙◌, ap, inl, inr, arith}
use Rattle.std.specs.Prelude.{None}
use Rattle.std.specs.List.{slice_get}
use Rattle.std.specs.Option.{option_map_or}
use Rattle.std.proofs.lemmas.Bool.{cases_lt}
use Rattle.std.proofs.lemmas.List.Elements.{All-from_recursion}
use Rattle.std.proofs.lemmas.Option.{none-some, slice_get_past}
use Rattle.nddl_ast.specs.declared.declaration.FileDecls.{FileDecls}
use Rattle.nddl_parser.specs.Language.{ReadsAs}
use Rattle.nddl_symbols.specs.declared.site.Site.{Site}
use Rattle.nddl_symbols.specs.Joined.{decl_in, file_stretch, joined_sites, IsInFileOrder, IsOwnSite}
use Rattle.nddl_laws.specs.Given.{AreGiven, StandOnce}
use Rattle.nddl_symbols.proofs.Fills.{Fills, pairs_all, fills_same}
use Rattle.nddl_symbols.proofs.Stretches.{InFiles, file_filled}
use Rattle.nddl_laws.proofs.WholeFiles.{goes_whole}

-- a declaration that is there is in one of the files
in_files : (files : List FileDecls) (site : Site) → IsOwnSite files site → site.file < length files
in_files files site own = elim (cases_lt site.file (length files)) [
  | inl within ↦ within
  | inr past ↦
      let none : decl_in files site ≡ None = ap (λ o. slice_get (option_map_or (λ file. file.decls) o []) site.decl) (slice_get_past files site.file past) in
      absurd (none-some own.0 (sym none ∙ own.1))
]

pub all_filled : (files : List FileDecls) → AreGiven files → Fills (IsOwnSite files) (joined_sites files)
all_filled files given =
    let stretch = file_stretch (length files) files 0 in
    let ends : stretch.next ≡ length files = goes_whole ReadsAs given.shelf given.name files given.read in
    fills_same (InFiles files 0 stretch.next) (IsOwnSite files) stretch.sites (λ site is. is.0)
    (λ site own. let within = in_files files site own in (own, omega arith, omega arith)) (file_filled files (length files) 0).fills

pub stand_once : (files : List FileDecls) → AreGiven files → StandOnce files
stand_once files given =
    let fills = all_filled files given in
    record {
      only = All-from_recursion (IsOwnSite files) (joined_sites files) fills.only;
      each = fills.each;
      ordered = pairs_all IsInFileOrder (joined_sites files) fills.ordered;
    }
