-- What is so of each joined declaration.
use Rattle.std.proofs.Common.{◌≡◌, ℕ, zero, suc, false, ◌+◌, ◌<◌, ◌≤◌, List, [], ◌∷◌, ◌++◌, length, get_or, sym, ◌∙◌, ap, subst, inl, inr, arith}
use Rattle.std.specs.Prelude.{Some, None, All}
use Rattle.std.specs.List.{slice_get, filter_map, AllByRecursion}
use Rattle.std.specs.Option.{option_map_or}
use Rattle.std.proofs.lemmas.Bool.{cases_lt}
use Rattle.std.proofs.lemmas.Option.{none-some, same_Some, slice_get_past, slice_get-get_or, slice_get_within, get_or_from_slice_get}
use Rattle.std.proofs.lemmas.List.Elements.{All-from_recursion}
use Rattle.nddl_ast.specs.declared.declaration.Decl.{Decl}
use Rattle.nddl_ast.specs.declared.declaration.FileDecls.{FileDecls}
use Rattle.nddl_parser.specs.Limits.{most_bytes}
use Rattle.nddl_symbols.specs.declared.site.Site.{Site}
use Rattle.nddl_symbols.specs.Joined.{decls_in, decl_in, joined_sites, joined_decls, is_include, IsOwnSite}
use Rattle.nddl_laws.specs.Given.{AreGiven}
use Rattle.nddl_laws.specs.Fine.{IsFineDecl}
use Rattle.nddl_laws.specs.Nodes.{decl_nodes, text_nodes}
use Rattle.nddl_laws.specs.Trees.{HasText, IsJoinedDecl}
use Rattle.nddl_symbols.proofs.Fills.{pairs_all}
use Rattle.nddl_laws.proofs.Once.{all_filled}
use Rattle.nddl_laws.proofs.Symbols.{Rise}
use Rattle.nddl_laws.proofs.Shows.{rise_few}
use Rattle.nddl_laws.proofs.Texts.{given_texts, reads_trees, text_rises, rise_pairs, rise_inside}

-- a part of what rises
rise_front : (from end : ℕ) (front back : List ℕ) → Rise from end (front ++ back) → Rise from end front
rise_front from end [] back rise = tt
rise_front from end (node ∷ front) back rise = (rise.0, rise.1, rise_front (node + 1) end front back rise.2)

rise_back : (from end : ℕ) (front back : List ℕ) → Rise from end (front ++ back) → (least : ℕ) × Rise least end back
rise_back from end [] back rise = (from, rise)
rise_back from end (node ∷ front) back rise = rise_back (node + 1) end front back rise.2

-- the nodes of one declaration rise
one_rises : (from end : ℕ) (decls : List Decl) (number : ℕ) (decl : Decl) → slice_get decls number ≡ Some decl → Rise from end (text_nodes decls)
    → (least : ℕ) × Rise least end (decl_nodes decl)
one_rises from end [] number decl is rise = absurd (none-some decl is)
one_rises from end (first ∷ decls) zero decl is rise =
    let P : Decl → Type 0 = λ d. Rise from end (decl_nodes d) in
    (from, subst P (same_Some first decl is) (rise_front from end (decl_nodes first) (text_nodes decls) rise))
one_rises from end (first ∷ decls) (suc number) decl is rise =
    let rest = rise_back from end (decl_nodes first) (text_nodes decls) rise in
    one_rises rest.0 end decls number decl is rest.1

lower : (from end : ℕ) (nodes : List ℕ) → Rise from end nodes → Rise 0 end nodes
lower from end [] rise = tt
lower from end (node ∷ nodes) rise = (omega arith, rise.1, rise.2)

-- a declaration of a text
of_text : (decls : List Decl) (number : ℕ) (decl : Decl) → HasText decls → slice_get decls number ≡ Some decl → is_include decl ≡ false → IsJoinedDecl decl
of_text decls number decl has at own =
    let tree = reads_trees has.text decls has.read in
    let rise = one_rises 0 (length has.text) decls number decl at (text_rises has.text decls has.read) in
    let short : length has.text ≤ most_bytes = has.short in
    let nodes = decl_nodes decl in
    let within = slice_get_within decls number decl at in
    let fine : IsFineDecl decl = subst IsFineDecl (get_or_from_slice_get decls number decl decl at) (tree.fine number decl within) in
    let few = rise_few 0 (length has.text) nodes (omega arith) (lower rise.0 (length has.text) nodes rise.1) in
    record {
      own = own;
      fine = fine;
      rising = pairs_all (λ one other. one < other) nodes (rise_pairs rise.0 (length has.text) nodes rise.1);
      inside = λ k d in'. let less : get_or nodes k d < length has.text =
          All-from_recursion (λ node. node < length has.text) nodes (rise_inside rise.0 (length has.text) nodes rise.1) k d in' in omega arith;
      few = omega arith;
    }

-- a declaration at a site
at_site : (files : List FileDecls) → AreGiven files → (site : Site) → IsOwnSite files site → (decl : Decl) × (decl_in files site ≡ Some decl) × IsJoinedDecl decl
at_site files given site own = elim (cases_lt site.file (length files)) [
  | inl within ↦
      let file : FileDecls = get_or files site.file (record { name = []; decls = [] }) in
      let found : slice_get files site.file ≡ Some file = slice_get-get_or files site.file (record { name = []; decls = [] }) within in
      let same : decls_in files site.file ≡ file.decls = ap (λ o. option_map_or (λ f. f.decls) o []) found in
      let there : slice_get file.decls site.decl ≡ Some own.0 = sym (ap (λ some. slice_get some site.decl) same) ∙ own.1 in
      (own.0, own.1, of_text file.decls site.decl own.0 (given_texts files given site.file (record { name = []; decls = [] }) within) there own.2)
  | inr past ↦
      let none : decl_in files site ≡ None = ap (λ o. slice_get (option_map_or (λ file. file.decls) o []) site.decl) (slice_get_past files site.file past) in
      absurd (none-some own.0 (sym none ∙ own.1))
]

all_sites : (files : List FileDecls) → AreGiven files → (sites : List Site) → AllByRecursion (IsOwnSite files) sites
    → AllByRecursion IsJoinedDecl (filter_map (decl_in files) sites)
all_sites files given [] all = tt
all_sites files given (site ∷ sites) all =
    let is = at_site files given site all.0 in
    rw is.1 (is.2, all_sites files given sites all.1)

pub each_joined : (files : List FileDecls) → AreGiven files → All IsJoinedDecl (joined_decls files)
each_joined files given =
    All-from_recursion IsJoinedDecl (joined_decls files) (all_sites files given (joined_sites files) (all_filled files given).only)
