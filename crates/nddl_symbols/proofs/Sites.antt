-- Each joined declaration is at the site of its number.
use Rattle.std.proofs.Common.{◌≡◌, ℕ, zero, suc, List, [], ◌∷◌, length, refl}
use Rattle.std.specs.Prelude.{Option, Some}
use Rattle.std.specs.List.{slice_get, filter_map, AllByRecursion}
use Rattle.std.specs.Option.{option_and_then}
use Rattle.nddl_ast.specs.declared.declaration.Decl.{Decl}
use Rattle.nddl_ast.specs.declared.declaration.FileDecls.{FileDecls}
use Rattle.nddl_symbols.specs.declared.site.Site.{Site}
use Rattle.nddl_symbols.specs.Joined.{decl_in, file_stretch, AreAtSites}
use Rattle.nddl_symbols.proofs.Stretches.{InFiles, file_filled}

get_at : (look : Site → Option Decl) (sites : List Site) → AllByRecursion (λ site. (decl : Decl) × (look site ≡ Some decl)) sites
    → (number : ℕ) → slice_get (filter_map look sites) number ≡ option_and_then look (slice_get sites number)
get_at look [] all number = refl
get_at look (site ∷ sites) all zero = rw all.0.1 refl
get_at look (site ∷ sites) all (suc number) = rw all.0.1 (get_at look sites all.1 number)

some_there : (files : List FileDecls) (low high : ℕ) (sites : List Site) → AllByRecursion (InFiles files low high) sites
    → AllByRecursion (λ site. (decl : Decl) × (decl_in files site ≡ Some decl)) sites
some_there files low high [] all = tt
some_there files low high (site ∷ sites) all = ((all.0.0.0, all.0.0.1), some_there files low high sites all.1)

pub at_sites : (files : List FileDecls) → AreAtSites files
at_sites files = λ number.
    let stretch = file_stretch (length files) files 0 in
    get_at (decl_in files) stretch.sites (some_there files 0 stretch.next stretch.sites (file_filled files (length files) 0).fills.only) number
