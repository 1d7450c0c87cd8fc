-- A stretch has the declarations of the files that it brings in, each once.
use Rattle.std.proofs.Common.{◌≡◌, ℕ, zero, suc, ◌+◌, ◌-◌, ◌<◌, ◌≤◌, Bool, true, false, List, [], ◌∷◌, ◌++◌, refl, sym, ◌∙◌, ap, subst, inl, inr, arith}
use Rattle.std.specs.Prelude.{◌⊎◌, Some, None}
use Rattle.std.specs.List.{slice_get}
use Rattle.std.proofs.lemmas.Bool.{cases_lt}
use Rattle.std.proofs.lemmas.Option.{none-some, same_Some}
use Rattle.nddl_ast.specs.declared.declaration.Decl.{Decl}
use Rattle.nddl_ast.specs.declared.declaration.Decl.TheVariants as decls
use Rattle.nddl_ast.specs.declared.declaration.FileDecls.{FileDecls}
use Rattle.nddl_symbols.specs.declared.site.Site.{Site}
use Rattle.nddl_symbols.specs.Joined.{Stretch, no_stretch, include_stretch, is_file_named, decl_stretch, decls_stretch, decls_in, file_stretch, decl_in, is_include, IsInFileOrder, IsOwnSite}
use Rattle.nddl_symbols.proofs.Fills.{Fills, fills_none, fills_one, fills_same, fills_both}

-- the sites of these files, from one number up to another
abbrev pub InFiles : List FileDecls → ℕ → ℕ → Site → Type 0
InFiles files low high site = IsOwnSite files site × (low ≤ site.file) × (site.file < high)

-- a site of the file that has the number or a later one
abbrev InFile : List FileDecls → ℕ → ℕ → Site → Type 0
InFile files file number site = IsOwnSite files site × (site.file ≡ file) × (number ≤ site.decl)

-- this site
abbrev IsHere : List FileDecls → ℕ → ℕ → Site → Type 0
IsHere files file number site = IsOwnSite files site × (site.file ≡ file) × (site.decl ≡ number)

abbrev InRest : List FileDecls → ℕ → ℕ → ℕ → ℕ → Site → Type 0
InRest files file number low high site = InFile files file number site ⊎ InFiles files low high site

abbrev InFirst : List FileDecls → ℕ → ℕ → ℕ → ℕ → Site → Type 0
InFirst files file number low high site = IsHere files file number site ⊎ InFiles files low high site

-- the stretch goes on from the file, and has just these sites
pub record IsStretch (P : ℕ → Site → Type 0) (low : ℕ) (stretch : Stretch) : Type 0 where
  pub rises : low ≤ stretch.next
  pub fills : Fills (P stretch.next) stretch.sites

abbrev pub IsWholeStretch : List FileDecls → ℕ → Stretch → Type 0
IsWholeStretch files low stretch = IsStretch (InFiles files low) low stretch

-- these are the declarations of the file from the number on
abbrev AreFrom : List FileDecls → ℕ → ℕ → List Decl → Type 0
AreFrom files file number decls = (j : ℕ) → slice_get decls j ≡ slice_get (decls_in files file) (number + j)

abbrev here : ℕ → ℕ → Site
here file number = record { file = file; decl = number }

no_files : (files : List FileDecls) (next : ℕ) → IsWholeStretch files next (no_stretch next)
no_files files next = record {
  rises = omega arith;
  fills = fills_none (InFiles files next next) (λ site is. let low : next ≤ site.file = is.1 in let high : site.file < next = is.2 in omega arith);
}

module _ (files : List FileDecls) (file_from : ℕ → Stretch) (whole : (number : ℕ) → IsWholeStretch files number (file_from number)) where
  -- nothing stands at or behind the end of a file
  past_end : (file number : ℕ) (site : Site) → AreFrom files file number [] → InFile files file number site → ⊥
  past_end file number site suffix is =
      let above : number ≤ site.decl = is.2 in
      let there : number + (site.decl - number) ≡ site.decl = omega arith in
      let P : ℕ → Type 0 = λ k. None ≡ slice_get (decls_in files file) k in
      let ended : None ≡ slice_get (decls_in files file) site.decl = subst P there (suffix (site.decl - number)) in
      let same = ap (λ f. slice_get (decls_in files f) site.decl) is.1 in
      none-some is.0.0 (ended ∙ sym same ∙ is.0.1)

  none_left : (file number next : ℕ) → AreFrom files file number [] → (site : Site) → InRest files file number next next site → ⊥
  none_left file number next suffix site (inl is) = past_end file number site suffix is
  none_left file number next suffix site (inr is) =
      let low : next ≤ site.file = is.1 in let high : site.file < next = is.2 in omega arith

  -- one declaration stands for itself
  own_here : (file number next : ℕ) (decl : Decl) → decl_in files (here file number) ≡ Some decl → is_include decl ≡ false
      → (site : Site) → site ≡ here file number → InFirst files file number next next site
  own_here file number next decl at own site same =
      let P : Site → Type 0 = λ s. IsOwnSite files s in
      inl (subst P (sym same) (decl, at, own), ap (λ s. s.file) same, ap (λ s. s.decl) same)

  here_own : (file number next : ℕ) (site : Site) → InFirst files file number next next site → site ≡ here file number
  here_own file number next site (inl is) = λ i. record { file = is.1 i; decl = is.2 i }
  here_own file number next site (inr is) =
      let low : next ≤ site.file = is.1 in let high : site.file < next = is.2 in absurd (omega arith)

  own_first : (file number next : ℕ) (decl : Decl) → decl_in files (here file number) ≡ Some decl → is_include decl ≡ false
      → IsStretch (InFirst files file number next) next (record { sites = here file number ∷ []; next = next })
  own_first file number next decl at own = record {
    rises = omega arith;
    fills = fills_same (λ site. site ≡ here file number) (InFirst files file number next next) (here file number ∷ [])
        (own_here file number next decl at own) (here_own file number next) (fills_one (here file number));
  }

  -- or for a file
  not_here : (file number low high : ℕ) (decl : Decl) → decl_in files (here file number) ≡ Some decl → is_include decl ≡ true
      → (site : Site) → InFirst files file number low high site → InFiles files low high site
  not_here file number low high decl at is site (inl own) =
      let there : site ≡ here file number = λ i. record { file = own.1 i; decl = own.2 i } in
      let same : own.0.0 ≡ decl = same_Some own.0.0 decl (sym own.0.1 ∙ (ap (decl_in files) there ∙ at)) in
      absurd (let both : false ≡ true = sym own.0.2 ∙ (ap is_include same ∙ is) in cc)
  not_here file number low high decl at is site (inr in') = in'

  include_first : (file number next : ℕ) (decl : Decl) → decl_in files (here file number) ≡ Some decl → is_include decl ≡ true
      → (stretch : Stretch) → IsWholeStretch files next stretch → IsStretch (InFirst files file number next) next stretch
  include_first file number next decl at is stretch full = record {
    rises = full.rises;
    fills = fills_same (InFiles files next stretch.next) (InFirst files file number next stretch.next) stretch.sites
        (λ site in'. inr in') (not_here file number next stretch.next decl at is) full.fills;
  }

  brought : (next : ℕ) (brings : Bool) → IsWholeStretch files next (include_stretch file_from brings next)
  brought next true = whole next
  brought next false = no_files files next

  first_of : (file number next : ℕ) (decl : Decl) → decl_in files (here file number) ≡ Some decl
      → IsStretch (InFirst files file number next) next (decl_stretch file_from files (here file number) decl next)
  first_of file number next (decls.Include at name name_at) there =
      include_first file number next (decls.Include at name name_at) there refl
      (include_stretch file_from (is_file_named files next name) next) (brought next (is_file_named files next name))
  first_of file number next decl there = own_first file number next decl there refl

  -- what stands first comes before what stands in the rest
  first_before : (file number next between last : ℕ) → file < next → next ≤ between → (a b : Site)
      → InFirst files file number next between a → InRest files file (number + 1) between last b → IsInFileOrder a b
  first_before file number next between last below rises a b (inl p) (inl q) same =
      let n : a.decl ≡ number = p.2 in let m : number + 1 ≤ b.decl = q.2 in omega arith
  first_before file number next between last below rises a b (inl p) (inr q) same =
      let n : a.file ≡ file = p.1 in let m : between ≤ b.file = q.1 in absurd (omega arith)
  first_before file number next between last below rises a b (inr p) (inl q) same =
      let n : next ≤ a.file = p.1 in let m : b.file ≡ file = q.1 in absurd (omega arith)
  first_before file number next between last below rises a b (inr p) (inr q) same =
      let n : a.file < between = p.2 in let m : between ≤ b.file = q.1 in absurd (omega arith)

  -- both together are what is meant
  joins : (file number next between last : ℕ) → next ≤ between → between ≤ last → (site : Site)
      → InFirst files file number next between site ⊎ InRest files file (number + 1) between last site → InRest files file number next last site
  joins file number next between last low high site (inl (inl p)) = inl (p.0, p.1, (let n : site.decl ≡ number = p.2 in omega arith))
  joins file number next between last low high site (inl (inr p)) = inr (p.0, p.1, (let n : site.file < between = p.2 in omega arith))
  joins file number next between last low high site (inr (inl q)) = inl (q.0, q.1, (let n : number + 1 ≤ site.decl = q.2 in omega arith))
  joins file number next between last low high site (inr (inr q)) = inr (q.0, (let n : between ≤ site.file = q.1 in omega arith), q.2)

  parts : (file number next between last : ℕ) (site : Site) → (number < site.decl) ⊎ (site.decl ≤ number) → (site.file < between) ⊎ (between ≤ site.file)
      → InRest files file number next last site → InFirst files file number next between site ⊎ InRest files file (number + 1) between last site
  parts file number next between last site (inl later) before (inl p) = inr (inl (p.0, p.1, omega arith))
  parts file number next between last site (inr now) before (inl p) = inl (inl (p.0, p.1, (let n : number ≤ site.decl = p.2 in omega arith)))
  parts file number next between last site later (inl before) (inr q) = inl (inr (q.0, q.1, before))
  parts file number next between last site later (inr after) (inr q) = inr (inr (q.0, after, q.2))

  both_of : (file number next : ℕ) (first rest : Stretch) → file < next → IsStretch (InFirst files file number next) next first
      → IsStretch (InRest files file (number + 1) first.next) first.next rest
      → IsStretch (InRest files file number next) next (record { sites = first.sites ++ rest.sites; next = rest.next })
  both_of file number next first rest below one other =
      let low : next ≤ first.next = one.rises in
      let high : first.next ≤ rest.next = other.rises in
      record {
        rises = omega arith;
        fills = fills_same (λ site. InFirst files file number next first.next site ⊎ InRest files file (number + 1) first.next rest.next site)
            (InRest files file number next rest.next) (first.sites ++ rest.sites)
            (joins file number next first.next rest.next low high)
            (λ site is. parts file number next first.next rest.next site (cases_lt number site.decl) (cases_lt site.file first.next) is)
            (fills_both (InFirst files file number next first.next) (InRest files file (number + 1) first.next rest.next) first.sites rest.sites
            one.fills other.fills (first_before file number next first.next rest.next below low));
      }

  later : (file number : ℕ) (decl : Decl) (more : List Decl) → AreFrom files file number (decl ∷ more) → AreFrom files file (number + 1) more
  later file number decl more suffix = λ j.
      suffix (suc j) ∙ ap (slice_get (decls_in files file)) (let e : number + suc j ≡ (number + 1) + j = omega arith in e)

  first_there : (file number : ℕ) (decl : Decl) (more : List Decl) → AreFrom files file number (decl ∷ more) → decl_in files (here file number) ≡ Some decl
  first_there file number decl more suffix =
      sym (suffix 0 ∙ ap (slice_get (decls_in files file)) (let e : number + 0 ≡ number = omega arith in e))

  -- the declarations of a file, from a number on
  rest_of : (file number : ℕ) (some : List Decl) (next : ℕ) → AreFrom files file number some → file < next
      → IsStretch (InRest files file number next) next (decls_stretch file_from files file number some next)
  rest_of file number [] next suffix below = record {
    rises = omega arith;
    fills = fills_none (InRest files file number next next) (none_left file number next suffix);
  }
  rest_of file number (decl ∷ more) next suffix below =
      let first = decl_stretch file_from files (here file number) decl next in
      let one = first_of file number next decl (first_there file number decl more suffix) in
      let rises : next ≤ first.next = one.rises in
      both_of file number next first (decls_stretch file_from files file (number + 1) more first.next) below one
      (rest_of file (number + 1) more first.next (later file number decl more suffix) (omega arith))

  all_from : (file : ℕ) → AreFrom files file 0 (decls_in files file)
  all_from file = λ j. ap (slice_get (decls_in files file)) (let e : j ≡ 0 + j = omega arith in e)

  -- a whole file with those in it
  of_file : (file high : ℕ) → file < high → (site : Site) → InRest files file 0 (file + 1) high site → InFiles files file high site
  of_file file high below site (inl is) = let same : site.file ≡ file = is.1 in (is.0, omega arith, omega arith)
  of_file file high below site (inr is) = (is.0, (let low : file + 1 ≤ site.file = is.1 in omega arith), is.2)

  in_file : (file high : ℕ) (site : Site) → (file < site.file) ⊎ (site.file ≤ file) → InFiles files file high site → InRest files file 0 (file + 1) high site
  in_file file high site (inl after) is = inr (is.0, omega arith, is.2)
  in_file file high site (inr at) is = inl (is.0, (let low : file ≤ site.file = is.1 in omega arith), omega arith)

  file_whole : (file : ℕ) → IsWholeStretch files file (decls_stretch file_from files file 0 (decls_in files file) (file + 1))
  file_whole file =
      let rest = decls_stretch file_from files file 0 (decls_in files file) (file + 1) in
      let is = rest_of file 0 (decls_in files file) (file + 1) (all_from file) (omega arith) in
      let rises : file + 1 ≤ rest.next = is.rises in
      record {
        rises = omega arith;
        fills = fills_same (InRest files file 0 (file + 1) rest.next) (InFiles files file rest.next) rest.sites
            (of_file file rest.next (omega arith)) (λ site in'. in_file file rest.next site (cases_lt file site.file) in') is.fills;
      }

-- each file stands there with those that it brings in
pub file_filled : (files : List FileDecls) (levels number : ℕ) → IsWholeStretch files number (file_stretch levels files number)
file_filled files zero number = no_files files number
file_filled files (suc levels) number = file_whole files (file_stretch levels files) (file_filled files levels) number
