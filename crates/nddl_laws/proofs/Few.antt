-- How many joined declarations there are at most.
use Rattle.std.proofs.Common.{◌≡◌, ℕ, zero, suc, ◌+◌, ◌*◌, ◌<◌, ◌≤◌, Bool, true, false, List, [], ◌∷◌, length, get_or, ap, inl, inr, arith, length-append}
use Rattle.std.specs.Prelude.{Some, All}
use Rattle.std.specs.List.{slice_get}
use Rattle.std.specs.Option.{option_map_or}
use Rattle.std.proofs.lemmas.Bool.{cases_lt}
use Rattle.std.proofs.lemmas.Option.{slice_get_past, slice_get-get_or}
use Rattle.nddl_ast.specs.declared.declaration.Decl.{Decl}
use Rattle.nddl_ast.specs.declared.declaration.Decl.TheVariants as decls
use Rattle.nddl_ast.specs.declared.declaration.FileDecls.{FileDecls}
use Rattle.nddl_parser.specs.Limits.{most_bytes, most_files}
use Rattle.nddl_parser.specs.Laws.{AreRead}
use Rattle.nddl_parser.proofs.ReadFiles.{reads_files}
use Rattle.nddl_parser.specs.Language.{ReadsAs}
use Rattle.nddl_symbols.specs.declared.site.Site.{Site}
use Rattle.nddl_symbols.specs.Joined.{Stretch, include_stretch, is_file_named, decl_stretch, decls_stretch, decls_in, file_stretch}
use Rattle.nddl_laws.specs.Given.{AreGiven}
use Rattle.nddl_laws.specs.Nodes.{decl_nodes, text_nodes}
use Rattle.nddl_laws.specs.Trees.{HasText, JoinsFew}
use Rattle.nddl_laws.proofs.Texts.{given_texts, reads_trees}
use Rattle.nddl_laws.proofs.WholeFiles.{goes_whole}

-- ---- a text has no more declarations than bytes

some_node : (decl : Decl) → 0 < length (decl_nodes decl)
some_node (decls.Include at file file_at) = omega arith
some_node (decls.Enum at name members_at members) = omega arith
some_node (decls.Typedef at declared name) = omega arith
some_node (decls.Forward at name) = omega arith
some_node (decls.Class at name parent members) = omega arith
some_node (decls.Rule class predicate body) = omega arith
some_node (decls.Variable variable) = omega arith
some_node (decls.Call call) = omega arith
some_node (decls.Ask ask) = omega arith

fewer : (some : List Decl) → length some ≤ length (text_nodes some)
fewer [] = omega arith
fewer (decl ∷ more) = omega (arith, some_node decl, fewer more, length-append (decl_nodes decl) (text_nodes more))

few_decls : (some : List Decl) → HasText some → length some ≤ most_bytes
few_decls some has =
    let tree = reads_trees has.text some has.read in
    let few : length (text_nodes some) ≤ length has.text = tree.few in
    let short : length has.text ≤ most_bytes = has.short in
    omega (arith, fewer some)

few_in : (files : List FileDecls) → All (λ file. HasText file.decls) files → (number : ℕ) → length (decls_in files number) ≤ most_bytes
few_in files have number = elim (cases_lt number (length files)) [
  | inl within ↦
      let file : FileDecls = get_or files number (record { name = []; decls = [] }) in
      let found : slice_get files number ≡ Some file = slice_get-get_or files number (record { name = []; decls = [] }) within in
      let same : decls_in files number ≡ file.decls = ap (λ o. option_map_or (λ f. f.decls) o []) found in
      let n = ap length same in
      omega (arith, few_decls file.decls (have number (record { name = []; decls = [] }) within))
  | inr past ↦
      let none : decls_in files number ≡ [] = ap (λ o. option_map_or (λ f. f.decls) o []) (slice_get_past files number past) in
      let n : length (decls_in files number) ≡ 0 = ap length none in
      omega arith
]

-- ---- a stretch has no more than its files

abbrev IsShort : ℕ → ℕ → Stretch → Type 0
IsShort more low stretch = length stretch.sites + 1048576 * low ≤ 1048576 * stretch.next + more

module _ (files : List FileDecls) (file_from : ℕ → Stretch) (short : (number : ℕ) → IsShort 0 number (file_from number)) where
  brought : (next : ℕ) (brings : Bool) → IsShort 0 next (include_stretch file_from brings next)
  brought next true = short next
  brought next false = omega arith

  first_short : (site : Site) (decl : Decl) (next : ℕ) → IsShort 1 next (decl_stretch file_from files site decl next)
  first_short site (decls.Include at name name_at) next =
      let is = brought next (is_file_named files next name) in omega arith
  first_short site decl next = omega arith

  rest_short : (file number : ℕ) (some : List Decl) (next : ℕ) → IsShort (length some) next (decls_stretch file_from files file number some next)
  rest_short file number [] next = omega arith
  rest_short file number (decl ∷ more) next =
      let first = decl_stretch file_from files (record { file = file; decl = number }) decl next in
      let rest = decls_stretch file_from files file (number + 1) more first.next in
      let one = first_short (record { file = file; decl = number }) decl next in
      let other = rest_short file (number + 1) more first.next in
      omega (arith, length-append first.sites rest.sites)

file_short : (files : List FileDecls) → ((number : ℕ) → length (decls_in files number) ≤ most_bytes) → (levels number : ℕ) → IsShort 0 number (file_stretch levels files number)
file_short files few zero number = omega arith
file_short files few (suc levels) number =
    let rest = rest_short files (file_stretch levels files) (file_short files few levels) number 0 (decls_in files number) (number + 1) in
    omega (arith, few number)

pub joins_few : (files : List FileDecls) → AreGiven files → JoinsFew files
joins_few files given =
    let short = file_short files (few_in files (given_texts files given)) (length files) 0 in
    let ends = goes_whole ReadsAs given.shelf given.name files given.read in
    let read : AreRead given.name files = reads_files ReadsAs given.shelf given.name files given.read in
    let few : length files ≤ most_files = read.few in
    omega arith
