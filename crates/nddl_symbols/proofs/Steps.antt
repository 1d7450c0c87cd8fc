-- Joining one declaration after another, over plain variables.
use Rattle.std.proofs.Common.{◌≡◌, ℕ, zero, suc, ◌+◌, ◌-◌, ◌<◌, ◌≤◌, List, [], ◌∷◌, ◌++◌, length, drop, get_or, refl, sym, ◌∙◌, ap, arith, append_assoc}
use Rattle.std.specs.Option.{option_map_or}
use Rattle.std.proofs.lemmas.List.{append-nil, drop_more, drop_all}
use Rattle.std.proofs.lemmas.Option.{slice_get_read}
use Rattle.nddl_ast.specs.declared.declaration.Decl.{Decl}
use Rattle.nddl_ast.specs.declared.declaration.FileDecls.{FileDecls}
use Rattle.nddl_symbols.specs.declared.site.Site.{Site}
use Rattle.nddl_symbols.specs.Joined.{Stretch, decl_stretch, decls_stretch, decls_in, file_stretch}

-- what is joined from here on is what is joined in all
pub record GoesOn (file_from : ℕ → Stretch) (files : List FileDecls) (file : ℕ) (decls : List Decl) (begun : List Site) (i after : ℕ) (so_far : List Site) : Type 0 where
  pub sites : so_far ++ (decls_stretch file_from files file i (drop i decls) after).sites ≡ begun ++ (decls_stretch file_from files file 0 decls (file + 1)).sites
  pub next : (decls_stretch file_from files file i (drop i decls) after).next ≡ (decls_stretch file_from files file 0 decls (file + 1)).next

pub begins_on : (file_from : ℕ → Stretch) (files : List FileDecls) (file : ℕ) (decls : List Decl) (begun : List Site) → GoesOn file_from files file decls begun 0 (file + 1) begun
begins_on file_from files file decls begun = record { sites = refl; next = refl }

dropped : (decls : List Decl) (i : ℕ) (decl : Decl) → i < length decls → decl ≡ get_or decls i decl → decl ∷ drop (i + 1) decls ≡ drop i decls
dropped decls i decl within is = ap (λ d. d ∷ drop (i + 1) decls) is ∙ sym (drop_more decls i decl within)

pub goes_on : (file_from : ℕ → Stretch) (files : List FileDecls) (file : ℕ) (decls : List Decl) (begun : List Site) (i next : ℕ) (sites : List Site)
    (decl : Decl) (after : ℕ) (out : List Site) → i < length decls → decl ≡ get_or decls i decl
    → out ≡ sites ++ (decl_stretch file_from files (record { file = file; decl = i }) decl next).sites
    → after ≡ (decl_stretch file_from files (record { file = file; decl = i }) decl next).next
    → GoesOn file_from files file decls begun i next sites → GoesOn file_from files file decls begun (i + 1) after out
goes_on file_from files file decls begun i next sites decl after out within is adds moves goes =
    let first = decl_stretch file_from files (record { file = file; decl = i }) decl next in
    let rest = drop (i + 1) decls in
    let left = dropped decls i decl within is in
    record {
      sites = ap (λ o. o ++ (decls_stretch file_from files file (i + 1) rest after).sites) adds
          ∙ (ap (λ n. (sites ++ first.sites) ++ (decls_stretch file_from files file (i + 1) rest n).sites) moves
          ∙ (append_assoc sites first.sites (decls_stretch file_from files file (i + 1) rest first.next).sites
          ∙ (ap (λ some. sites ++ (decls_stretch file_from files file i some next).sites) left ∙ goes.sites)));
      next = ap (λ n. (decls_stretch file_from files file (i + 1) rest n).next) moves
          ∙ (ap (λ some. (decls_stretch file_from files file i some next).next) left ∙ goes.next);
    }

as_file : (files : List FileDecls) (number levels : ℕ) → 0 < levels
    → decls_stretch (file_stretch (levels - 1) files) files number 0 (decls_in files number) (number + 1) ≡ file_stretch levels files number
as_file files number zero some = absurd (let never : ⊥ = omega arith in never)
as_file files number (suc levels) some =
    let less : suc levels - 1 ≡ levels = omega arith in
    ap (λ n. decls_stretch (file_stretch n files) files number 0 (decls_in files number) (number + 1)) less

-- where all declarations of the file are joined, the file is
pub goes_whole_file : (files : List FileDecls) (number levels : ℕ) (decls : List Decl) (begun : List Site) (i next : ℕ) (sites : List Site)
    → 0 < levels → decls ≡ decls_in files number → length decls ≤ i
    → GoesOn (file_stretch (levels - 1) files) files number decls begun i next sites
    → (sites ≡ begun ++ (file_stretch levels files number).sites) × (next ≡ (file_stretch levels files number).next)
goes_whole_file files number levels decls begun i next sites some are past goes =
    let inner = file_stretch (levels - 1) files in
    let none = drop_all i decls past in
    let whole : decls_stretch inner files number 0 decls (number + 1) ≡ file_stretch levels files number =
    ap (λ some. decls_stretch inner files number 0 some (number + 1)) are ∙ as_file files number levels some in (
      sym (append-nil sites) ∙ (ap (λ some. sites ++ (decls_stretch inner files number i some next).sites) (sym none) ∙ (goes.sites ∙ ap (λ s. begun ++ s.sites) whole)),
      ap (λ some. (decls_stretch inner files number i some next).next) (sym none) ∙ (goes.next ∙ ap (λ s. s.next) whole),
    )

-- the declarations of a file that is read at its number
pub decls_read : (files : List FileDecls) (number : ℕ) (file : FileDecls) → number < length files → file ≡ get_or files number file → file.decls ≡ decls_in files number
decls_read files number file within is =
    ap (λ o. option_map_or (λ f. f.decls) o []) (sym (slice_get_read files (length files) number file refl within is))
