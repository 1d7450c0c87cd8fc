-- The declarations of files, joined: those of an included file stand at the place of its include.
use Rattle.std.specs.Prelude.{◌≡◌, ℕ, ◌+◌, ◌<◌, zero, suc, Bool, true, false, List, [], ◌∷◌, ◌++◌, length}
use Rattle.std.specs.Prelude.{Option, Some, bytes_eq}
use Rattle.std.specs.List.{filter_map, slice_get}
use Rattle.std.specs.Option.{option_and_then, option_map_or}
use Rattle.nddl_ast.specs.declared.declaration.Decl.{Decl}
use Rattle.nddl_ast.specs.declared.declaration.Decl.TheVariants as decls
use Rattle.nddl_ast.specs.declared.declaration.FileDecls.{FileDecls}
use Rattle.nddl_symbols.specs.declared.site.Site.{Site}

-- Files are in the order in which they were read: each after the one that includes it, and each include's files before
-- those of the next include. So an include brings in the next file if this has its name; otherwise that file has stood
-- before, or is built in, and the include stands for nothing.

-- what stands for a part of the files: the declarations in their order, each by its site, and the number of the next
-- file, which none of them has brought in
pub record Stretch : Type 0 where
  pub sites : List Site
  pub next : ℕ

-- nothing
abbrev pub no_stretch : ℕ → Stretch
no_stretch next = record { sites = []; next = next }

-- one stretch, and the one that goes on from its next file
abbrev pub stretch_after : Stretch → (ℕ → Stretch) → Stretch
stretch_after first more =
    let rest = more first.next in record { sites = first.sites ++ rest.sites; next = rest.next }

-- the file of this number is there and has this name
abbrev pub is_file_named : List FileDecls → ℕ → List ℕ → Bool
is_file_named files number name = option_map_or (λ file. bytes_eq file.name name) (slice_get files number) false

-- the next file, or nothing
abbrev pub include_stretch : (ℕ → Stretch) → Bool → ℕ → Stretch
include_stretch file_from true next = file_from next
include_stretch file_from false next = no_stretch next

-- what stands for a declaration: what the file has that it includes, or itself
abbrev pub decl_stretch : (ℕ → Stretch) → List FileDecls → Site → Decl → ℕ → Stretch
decl_stretch file_from files site (decls.Include at name name_at) next =
    include_stretch file_from (is_file_named files next name) next
decl_stretch file_from files site decl next = record { sites = site ∷ []; next = next }

-- what stands for the declarations of a file, from this number in it on
abbrev pub decls_stretch : (ℕ → Stretch) → List FileDecls → ℕ → ℕ → List Decl → ℕ → Stretch
decls_stretch file_from files file number [] next = no_stretch next
decls_stretch file_from files file number (decl ∷ more) next =
    stretch_after (decl_stretch file_from files (record { file = file; decl = number }) decl next)
    (decls_stretch file_from files file (number + 1) more)

-- the declarations of the file of this number
abbrev pub decls_in : List FileDecls → ℕ → List Decl
decls_in files number = option_map_or (λ file. file.decls) (slice_get files number) []

-- what the file of this number stands for, where files may stand in one another as many levels deep
abbrev pub file_stretch : ℕ → List FileDecls → ℕ → Stretch
file_stretch zero files number = no_stretch number
file_stretch (suc levels) files number =
    decls_stretch (file_stretch levels files) files number 0 (decls_in files number) (number + 1)

-- where the declarations of a program stand, in their order: those of its first file, with each file in it; no file
-- stands in itself, so there are no more levels than files
abbrev pub joined_sites : List FileDecls → List Site
joined_sites files = (file_stretch (length files) files 0).sites

-- the declaration at a site
abbrev pub decl_in : List FileDecls → Site → Option Decl
decl_in files site = slice_get (decls_in files site.file) site.decl

-- the joined declarations: those of a program, in their order
abbrev pub joined_decls : List FileDecls → List Decl
joined_decls files = filter_map (decl_in files) (joined_sites files)

-- each joined declaration is the one at the site of its number
abbrev pub AreAtSites : List FileDecls → Type 0
AreAtSites files = (number : ℕ)
    → slice_get (joined_decls files) number ≡ option_and_then (decl_in files) (slice_get (joined_sites files) number)

-- ---- what stands where

abbrev pub is_include : Decl → Bool
is_include (decls.Include at name name_at) = true
is_include decl = false

-- at the site stands a declaration that is no include
abbrev pub IsOwnSite : List FileDecls → Site → Type 0
IsOwnSite files site = (decl : Decl) × (decl_in files site ≡ Some decl) × (is_include decl ≡ false)

-- where both are of one file, the one comes before the other there
abbrev pub IsInFileOrder : Site → Site → Type 0
IsInFileOrder one other = one.file ≡ other.file → one.decl < other.decl
