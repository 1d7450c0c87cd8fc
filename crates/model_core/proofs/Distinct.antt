-- In a lawful model no two roots, globals or parameters of a predicate have one name.
use Rattle.std.proofs.Common.{◌≡◌, ℕ, ◌+◌, ◌<◌, List, ◌++◌, length, get_or, Some, slice_get, map, inl, inr, sym, ◌∙◌, ap, arith}
use Rattle.std.specs.Prelude.{◌≢◌, AllPairs}
use Rattle.std.proofs.lemmas.Bool.{cases_order}
use Rattle.std.proofs.lemmas.List.{get_or_append_left, get_or-append-add, get_or-map, length-append, length-map}
use Rattle.model_core.specs.declared.class.Pred.{Pred}
use Rattle.model_core.specs.declared.model.Model.{Model}
use Rattle.model_core.specs.declared.model.Root.{Root}
use Rattle.model_core.specs.declared.variable.VarDecl.{VarDecl}
use Rattle.model_core.specs.Lawful.{IsLawful}
use Rattle.model_core.specs.Naming.{global_names, labels}
use Rattle.model_core.specs.Tokens.{IsRoot}
use Rattle.model_core.proofs.Items.{item_within, item_is}

pub pairs_front : {X : Type 0} (R : X → X → Type 0) (xs ys : List X) → AllPairs R (xs ++ ys) → AllPairs R xs
pairs_front R xs ys pairs i j d below within =
    let whole : j < length (xs ++ ys) = omega (arith, length-append xs ys, within) in
    let first : i < length xs = omega (arith, below, within) in
    rw (get_or_append_left xs ys d i first, get_or_append_left xs ys d j within) at (pairs i j d below whole)

pub pairs_back : {X : Type 0} (R : X → X → Type 0) (xs ys : List X) → AllPairs R (xs ++ ys) → AllPairs R ys
pairs_back R xs ys pairs i j d below within =
    let whole : length xs + j < length (xs ++ ys) = omega (arith, length-append xs ys, within) in
    let order : length xs + i < length xs + j = omega (arith, below) in
    rw (get_or-append-add xs ys i d, get_or-append-add xs ys j d) at (pairs (length xs + i) (length xs + j) d order whole)

-- equal things stand at one place of a list whose things differ
pub index_once : {X : Type 0} (xs : List X) (i j : ℕ) (d : X) → AllPairs ◌≢◌ xs → i < length xs → j < length xs → get_or xs i d ≡ get_or xs j d → i ≡ j
index_once xs i j d distinct first second same =
    elim (cases_order i j) [
      | inl equal ↦ equal
      | inr (inl below) ↦ absurd (distinct i j d below second same)
      | inr (inr above) ↦ absurd (distinct j i d above first (sym same))
    ]

-- what is in a list once has one place
pub place_once : {X : Type 0} (xs : List X) → AllPairs (λ one other. one ≢ other) xs → (j k : ℕ) (x : X) → slice_get xs j ≡ Some x → slice_get xs k ≡ Some x → j ≡ k
place_once xs once j k x first second =
    index_once xs j k x once (item_within xs j x first) (item_within xs k x second) (item_is xs j x x first ∙ sym (item_is xs k x x second))

-- two things of a list that are called alike stand at one place, if all are called differently
called_once : {X : Type 0} (name : X → List ℕ) (xs : List X) (i j : ℕ) (one other : X) → AllPairs ◌≢◌ (map name xs)
    → slice_get xs i ≡ Some one → slice_get xs j ≡ Some other → name one ≡ name other → i ≡ j
called_once name xs i j one other distinct first second same =
    let first_in = item_within xs i one first in
    let second_in = item_within xs j other second in
    let first_is : get_or (map name xs) i (name one) ≡ name one = get_or-map name xs i one (name one) first_in ∙ ap name (item_is xs i one one first) in
    let second_is : get_or (map name xs) j (name one) ≡ name other = get_or-map name xs j one (name one) second_in ∙ ap name (item_is xs j one other second) in
    index_once (map name xs) i j (name one) distinct (omega (arith, length-map xs name, first_in)) (omega (arith, length-map xs name, second_in)) (first_is ∙ (same ∙ sym second_is))

pub global_once : (model : Model) (i j : ℕ) (one other : VarDecl) → IsLawful model → slice_get model.problem.globals i ≡ Some one → slice_get model.problem.globals j ≡ Some other
    → one.name ≡ other.name → i ≡ j
global_once model i j one other lawful first second same =
    let distinct = pairs_front ◌≢◌ (global_names model) _ (pairs_front ◌≢◌ _ _ lawful.distinct) in
    called_once (λ (variable : VarDecl). variable.name) model.problem.globals i j one other distinct first second same

pub root_once : (model : Model) (i j : ℕ) (one other : Root) → IsLawful model → IsRoot model i one → IsRoot model j other → one.label ≡ other.label → i ≡ j
root_once model i j one other lawful first second same =
    let distinct = pairs_front ◌≢◌ (labels model) _ (pairs_back ◌≢◌ (global_names model) _ (pairs_front ◌≢◌ _ _ lawful.distinct)) in
    called_once (λ (root : Root). root.label) model.problem.roots i j one other distinct first second same

pub parameter_once : (model : Model) (number i j : ℕ) (pred : Pred) (one other : VarDecl) → IsLawful model → slice_get model.preds number ≡ Some pred
    → slice_get pred.params i ≡ Some one → slice_get pred.params j ≡ Some other → one.name ≡ other.name → i ≡ j
parameter_once model number i j pred one other lawful is_pred first second same =
    called_once (λ (variable : VarDecl). variable.name) pred.params i j one other (lawful.preds number pred is_pred).distinct first second same
