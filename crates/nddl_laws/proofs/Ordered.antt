-- The names of the trees of given files are read in order.
use Rattle.std.proofs.Common.{◌≡◌, ℕ, zero, suc, ◌+◌, ◌<◌, List, [], ◌∷◌, slice_get, refl, sym, subst, inl, inr, arith}
use Rattle.std.specs.Prelude.{Option, Some, None, All, AllPairs}
use Rattle.std.specs.List.{flat_map}
use Rattle.std.specs.Option.{option_map_or}
use Rattle.std.proofs.lemmas.List.Elements.{All-append, All-cons, All-head, All-nil, All-tail}
use Rattle.std.proofs.lemmas.List.Kept.{AllPairs-cons}
use Rattle.model_core.specs.declared.class.Pred.{Pred}
use Rattle.model_core.proofs.Distinct.{pairs_back}
use Rattle.model_core.proofs.Items.{item_is, item_within}
use Rattle.nddl_ast.specs.declared.declaration.Decl.{Decl}
use Rattle.nddl_ast.specs.declared.declaration.Decl.TheVariants as decls
use Rattle.nddl_ast.specs.declared.declaration.FileDecls.{FileDecls}
use Rattle.nddl_ast.specs.declared.declaration.Member.{Member}
use Rattle.nddl_ast.specs.declared.declaration.Member.TheVariants as members
use Rattle.nddl_ast.specs.Tree.{Nothing}
use Rattle.nddl_symbols.specs.Place.{file_of_place}
use Rattle.nddl_laws.specs.Given.{AreGiven}
use Rattle.nddl_laws.specs.Nodes.{decl_nodes, member_nodes, parent_nodes, part_nodes, statements_nodes}
use Rattle.nddl_laws.specs.Trees.{IsJoinedDecl}
use Rattle.nddl_laws.proofs.Each.{each_joined}
use Rattle.nddl_types.specs.declared.table.TypeTable.{TypeTable}
use Rattle.nddl_terms.specs.declared.tree.ReadName.{ReadName}
use Rattle.nddl_terms.specs.PlainTree.{PlainTree}
use Rattle.nddl_terms.specs.Names.{AreReadInOrder}
use Rattle.nddl_rules.specs.declared.sight.Tally.{Tally}
use Rattle.nddl_rules.specs.Reads.{NameSources}
use Rattle.nddl_rules.specs.Sight.{Sight, no_sight}
use Rattle.nddl_rules.specs.Tally.{no_tally}
use Rattle.nddl_rules.specs.Blocks.{block_names}
use Rattle.nddl_rules.specs.declared.places.TextPlace.{TextPlace}
use Rattle.nddl_rules.specs.Written.{noted_preds, places_of, preds_above, texts_written}
use Rattle.nddl_rules.specs.Collected.{RuleTexts, decl_statements, member_statements, text_head, text_statements, tree_at, tree_with, trees_from}
use Rattle.nddl_rules.specs.Told.{AreFileTrees, file_texts}
use Rattle.nddl_laws.proofs.Reading.{AreReadAt, names_part, parts_part, read_before, read_behind}

-- ---- what is read at places that rise is read in order

-- what is read at places behind a byte is read behind it
part_above : (least : ℕ) (names : List ReadName) (nodes : List ℕ) → AreReadAt names nodes → All (λ node. least < node) nodes
    → All (λ (read : ReadName). least < read.at) names
part_above least [] nodes are above = All-nil (λ (read : ReadName). least < read.at)
part_above least (read ∷ names) [] are above = absurd are
part_above least (read ∷ names) (node ∷ nodes) (inl here) above =
    let first : least < node = All-head (λ n. least < n) node nodes above in
    let place : read.at ≡ node = here.0 in
    All-cons (λ (other : ReadName). least < other.at) read names (omega (arith, first, place))
    (part_above least names nodes here.1 (All-tail (λ n. least < n) node nodes above))
part_above least (read ∷ names) (node ∷ nodes) (inr later) above =
    part_above least (read ∷ names) nodes later (All-tail (λ n. least < n) node nodes above)

first_below : (node : ℕ) (nodes : List ℕ) → AllPairs (λ one other. one < other) (node ∷ nodes) → All (λ other. node < other) nodes
first_below node nodes pairs k d within = pairs 0 (suc k) d (omega arith) (omega (arith, within))

part_ordered : (names : List ReadName) (nodes : List ℕ) → AreReadAt names nodes → AllPairs (λ one other. one < other) nodes → AreReadInOrder names
part_ordered [] nodes are rising = λ i j d below within. absurd (omega (arith, within))
part_ordered (read ∷ names) [] are rising = absurd are
part_ordered (read ∷ names) (node ∷ nodes) (inl here) rising =
    let rest = pairs_back (λ one other. one < other) (node ∷ []) nodes rising in
    let above = part_above node names nodes here.1 (first_below node nodes rising) in
    AllPairs-cons (λ (one other : ReadName). one.at < other.at) read names
    (subst (λ least. All (λ (other : ReadName). least < other.at) names) (sym here.0) above) (part_ordered names nodes here.1 rest)
part_ordered (read ∷ names) (node ∷ nodes) (inr later) rising =
    part_ordered (read ∷ names) nodes later (pairs_back (λ one other. one < other) (node ∷ []) nodes rising)

-- ---- the texts of rules

member_part : (sources : NameSources) (sight : Sight) (tally : Tally) (member : Member)
    → AreReadAt (block_names sources sight tally (member_statements member)) (member_nodes member)
member_part sources sight tally (members.Predicate at name parts) =
    read_behind (block_names sources sight tally (member_statements (members.Predicate at name parts))) (at ∷ name.at ∷ [])
    (flat_map part_nodes parts) (parts_part sources sight tally parts)
member_part sources sight tally member = tt

members_part : (sources : NameSources) (sight : Sight) (tally : Tally) (place : ℕ) (some : List Member)
    → AreReadAt (block_names sources sight tally (option_map_or member_statements (slice_get some place) Nothing)) (flat_map member_nodes some)
members_part sources sight tally zero [] = tt
members_part sources sight tally (suc place) [] = tt
members_part sources sight tally zero (member ∷ more) =
    read_before (block_names sources sight tally (member_statements member)) (member_nodes member) (flat_map member_nodes more)
    (member_part sources sight tally member)
members_part sources sight tally (suc place) (member ∷ more) =
    read_behind (block_names sources sight tally (option_map_or member_statements (slice_get more place) Nothing)) (member_nodes member)
    (flat_map member_nodes more) (members_part sources sight tally place more)

decl_part : (sources : NameSources) (sight : Sight) (tally : Tally) (member : Option ℕ) (decl : Decl)
    → AreReadAt (block_names sources sight tally (decl_statements member decl)) (decl_nodes decl)
decl_part sources sight tally None (decls.Rule class predicate body) =
    read_behind (block_names sources sight tally body.statements) (class.at ∷ predicate.at ∷ body.at ∷ [])
    (statements_nodes body.statements) (names_part sources sight tally body.statements)
decl_part sources sight tally (Some place) (decls.Class at name parent some) =
    read_behind (block_names sources sight tally (option_map_or member_statements (slice_get some place) Nothing))
    (at ∷ name.at ∷ parent_nodes parent) (flat_map member_nodes some) (members_part sources sight tally place some)
decl_part sources sight tally None decl = tt
decl_part sources sight tally (Some place) decl = tt

-- the names that are read in the rule at a place of given files are read in order
text_ordered : (sources : NameSources) (sight : Sight) (tally : Tally) (program : List Decl) (place : TextPlace) → All IsJoinedDecl program
    → AreReadInOrder (block_names sources sight tally (text_statements program place))
text_ordered sources sight tally program place joined = inner (slice_get program place.decl) (λ decl is. there decl is)
  where
    there : (decl : Decl) → slice_get program place.decl ≡ Some decl → IsJoinedDecl decl
    there decl is =
        subst IsJoinedDecl (item_is program place.decl decl decl is) (joined place.decl decl (item_within program place.decl decl is))

    inner : (found : Option Decl) → ((decl : Decl) → found ≡ Some decl → IsJoinedDecl decl)
        → AreReadInOrder (block_names sources sight tally (option_map_or (decl_statements place.member) found Nothing))
    inner None each = λ i j d below within. absurd (omega (arith, within))
    inner (Some decl) each =
        part_ordered (block_names sources sight tally (decl_statements place.member decl)) (decl_nodes decl)
        (decl_part sources sight tally place.member decl) (each decl refl).rising

-- ---- trees

abbrev IsOrderedTree : PlainTree → Type 0
IsOrderedTree tree = AreReadInOrder tree.names

tree_ordered : (texts : RuleTexts) (number : ℕ) (pred : Pred) (place : TextPlace) → All IsJoinedDecl texts.program
    → All IsOrderedTree (tree_at texts number pred place)
tree_ordered texts number pred place joined = inner (file_of_place texts.files texts.sites (text_head texts.program place))
  where
    made : FileDecls → PlainTree
    made file = tree_with texts.scope number pred file.name (text_head texts.program place) (text_statements texts.program place)

    inner : (found : Option FileDecls) → All IsOrderedTree (option_map_or (λ file. made file ∷ []) found [])
    inner None = All-nil IsOrderedTree
    inner (Some file) =
        All-cons IsOrderedTree (made file) []
        (text_ordered (record { scope = texts.scope; params = pred.params }) no_sight no_tally texts.program place joined)
        (All-nil IsOrderedTree)

places_ordered : (texts : RuleTexts) (number : ℕ) (pred : Pred) (places : List TextPlace) → All IsJoinedDecl texts.program
    → All IsOrderedTree (flat_map (tree_at texts number pred) places)
places_ordered texts number pred [] joined = All-nil IsOrderedTree
places_ordered texts number pred (place ∷ more) joined =
    All-append IsOrderedTree (tree_at texts number pred place) (flat_map (tree_at texts number pred) more)
    (tree_ordered texts number pred place joined) (places_ordered texts number pred more joined)

preds_ordered : (texts : RuleTexts) (above : List (Option ℕ)) (written : List (List TextPlace)) (number : ℕ) (preds : List Pred)
    → All IsJoinedDecl texts.program → All IsOrderedTree (trees_from texts above written number preds)
preds_ordered texts above written number [] joined = All-nil IsOrderedTree
preds_ordered texts above written number (pred ∷ more) joined =
    All-append IsOrderedTree (flat_map (tree_at texts number pred) (places_of above written number))
    (trees_from texts above written (number + 1) more)
    (places_ordered texts number pred (places_of above written number) joined) (preds_ordered texts above written (number + 1) more joined)

-- the names of the trees of given files are read in order
pub trees_ordered : (table : TypeTable) (files : List FileDecls) (trees : List PlainTree) → AreGiven files → AreFileTrees table files trees
    → All IsOrderedTree trees
trees_ordered table files trees given are =
    let texts = file_texts table files in
    let noted = noted_preds table.classes [] 0 table.preds in
    subst (All IsOrderedTree) (sym are.trees_are)
    (preds_ordered texts (preds_above table.classes noted table.preds) (texts_written noted table.preds texts.program) 0 table.preds
    (each_joined files given))
