-- What is so of the tree of each place is so of all trees of files; and trees go by predicate.
use Rattle.std.proofs.Common.{◌≡◌, ℕ, ◌+◌, ◌≤◌, List, [], ◌∷◌, ◌++◌, refl, sym, subst, arith}
use Rattle.std.specs.Prelude.{Option, Some, None, All}
use Rattle.std.specs.List.{flat_map}
use Rattle.std.specs.Option.{option_map_or}
use Rattle.std.proofs.lemmas.List.Elements.{All-append, All-cons, All-nil}
use Rattle.model_core.specs.declared.class.Pred.{Pred}
use Rattle.nddl_ast.specs.declared.declaration.FileDecls.{FileDecls}
use Rattle.nddl_symbols.specs.Place.{file_of_place}
use Rattle.nddl_types.specs.declared.table.TypeTable.{TypeTable}
use Rattle.nddl_terms.specs.PlainTree.{PlainTree}
use Rattle.nddl_rules.specs.declared.places.TextPlace.{TextPlace}
use Rattle.nddl_rules.specs.Written.{noted_preds, places_of, preds_above, texts_written}
use Rattle.nddl_rules.specs.Collected.{RuleTexts, text_head, text_statements, tree_at, tree_with, trees_from}
use Rattle.nddl_rules.specs.Told.{AreFileTrees, file_texts}

-- the tree of the rule at a place for the predicate of this number, in this file
abbrev pub placed_tree : RuleTexts → ℕ → Pred → FileDecls → TextPlace → PlainTree
placed_tree texts number pred file place =
    tree_with texts.scope number pred file.name (text_head texts.program place) (text_statements texts.program place)

module _ (P : PlainTree → Type 0) (texts : RuleTexts)
    (each : (number : ℕ) (pred : Pred) (file : FileDecls) (place : TextPlace) → P (placed_tree texts number pred file place)) where
  found_so : (number : ℕ) (pred : Pred) (place : TextPlace) (found : Option FileDecls)
      → All P (option_map_or (λ file. placed_tree texts number pred file place ∷ []) found [])
  found_so number pred place None = All-nil P
  found_so number pred place (Some file) = All-cons P (placed_tree texts number pred file place) [] (each number pred file place) (All-nil P)

  places_so : (number : ℕ) (pred : Pred) (places : List TextPlace) → All P (flat_map (tree_at texts number pred) places)
  places_so number pred [] = All-nil P
  places_so number pred (place ∷ more) =
      All-append P (tree_at texts number pred place) (flat_map (tree_at texts number pred) more)
      (found_so number pred place (file_of_place texts.files texts.sites (text_head texts.program place))) (places_so number pred more)

  preds_so : (above : List (Option ℕ)) (written : List (List TextPlace)) (number : ℕ) (preds : List Pred)
      → All P (trees_from texts above written number preds)
  preds_so above written number [] = All-nil P
  preds_so above written number (pred ∷ more) =
      All-append P (flat_map (tree_at texts number pred) (places_of above written number)) (trees_from texts above written (number + 1) more)
      (places_so number pred (places_of above written number)) (preds_so above written (number + 1) more)

-- so of all trees of the files
pub trees_so : (P : PlainTree → Type 0) (table : TypeTable) (files : List FileDecls) (trees : List PlainTree) → AreFileTrees table files trees
    → ((number : ℕ) (pred : Pred) (file : FileDecls) (place : TextPlace) → P (placed_tree (file_texts table files) number pred file place))
    → All P trees
trees_so P table files trees are each =
    let texts = file_texts table files in
    let noted = noted_preds table.classes [] 0 table.preds in
    subst (All P) (sym are.trees_are)
    (preds_so P texts each (preds_above table.classes noted table.preds) (texts_written noted table.preds texts.program) 0 table.preds)

-- ---- trees by predicate

-- the trees go by predicate, from this one on
abbrev pub GoByPred : ℕ → List PlainTree → Type 0
GoByPred least [] = Unit {0}
GoByPred least (tree ∷ more) = (least ≤ tree.pred) × GoByPred tree.pred more

pub later_preds : (least other : ℕ) (trees : List PlainTree) → other ≤ least → GoByPred least trees → GoByPred other trees
later_preds least other [] less go = tt
later_preds least other (tree ∷ more) less go = (omega (arith, less, go.0), go.1)

-- all of them are for this predicate
abbrev AreFor : ℕ → List PlainTree → Type 0
AreFor pred [] = Unit {0}
AreFor pred (tree ∷ more) = (tree.pred ≡ pred) × AreFor pred more

for_both : (pred : ℕ) (one other : List PlainTree) → AreFor pred one → AreFor pred other → AreFor pred (one ++ other)
for_both pred [] other first second = second
for_both pred (tree ∷ more) other first second = (first.0, for_both pred more other first.1 second)

-- those of one predicate come before those of later ones
go_before : (pred : ℕ) (one other : List PlainTree) → AreFor pred one → GoByPred pred other → GoByPred pred (one ++ other)
go_before pred [] other are go = go
go_before pred (tree ∷ more) other are go =
    let same : tree.pred ≡ pred = are.0 in
    (omega (arith, same), subst (λ (n : ℕ). GoByPred n (more ++ other)) (sym same) (go_before pred more other are.1 go))

found_for : (texts : RuleTexts) (number : ℕ) (pred : Pred) (place : TextPlace) (found : Option FileDecls)
    → AreFor number (option_map_or (λ file. placed_tree texts number pred file place ∷ []) found [])
found_for texts number pred place None = tt
found_for texts number pred place (Some file) = (refl, tt)

places_for : (texts : RuleTexts) (number : ℕ) (pred : Pred) (places : List TextPlace) → AreFor number (flat_map (tree_at texts number pred) places)
places_for texts number pred [] = tt
places_for texts number pred (place ∷ more) =
    for_both number (tree_at texts number pred place) (flat_map (tree_at texts number pred) more)
    (found_for texts number pred place (file_of_place texts.files texts.sites (text_head texts.program place)))
    (places_for texts number pred more)

from_go : (texts : RuleTexts) (above : List (Option ℕ)) (written : List (List TextPlace)) (number : ℕ) (preds : List Pred)
    → GoByPred number (trees_from texts above written number preds)
from_go texts above written number [] = tt
from_go texts above written number (pred ∷ more) =
    let rest = trees_from texts above written (number + 1) more in
    go_before number (flat_map (tree_at texts number pred) (places_of above written number)) rest
    (places_for texts number pred (places_of above written number))
    (later_preds (number + 1) number rest (omega arith) (from_go texts above written (number + 1) more))

-- the trees of files go by predicate
pub trees_go : (table : TypeTable) (files : List FileDecls) (trees : List PlainTree) → AreFileTrees table files trees → GoByPred 0 trees
trees_go table files trees are =
    let texts = file_texts table files in
    let noted = noted_preds table.classes [] 0 table.preds in
    subst (GoByPred 0) (sym are.trees_are)
    (from_go texts (preds_above table.classes noted table.preds) (texts_written noted table.preds texts.program) 0 table.preds)
