-- Numbers of rules that are put into the lists of their predicates.
use Rattle.std.proofs.Common.{◌≡◌, ℕ, zero, suc, ◌+◌, ◌<◌, List, [], ◌∷◌, ◌++◌, length, drop, get_or, refl, sym, ◌∙◌, ap, map}
use Rattle.std.proofs.Common.{◌≤◌, append_assoc, append-nil, arith, eq-eqb, ne_eqb}
use Rattle.std.specs.Prelude.{◌≢◌, if◌then◌else◌}
use Rattle.std.proofs.lemmas.List.{drop_all, drop_more}
use Rattle.model_core.specs.declared.class.Pred.{Pred}
use Rattle.nddl_terms.specs.PlainTree.{PlainTree}
use Rattle.nddl_rules.specs.Lists.{with_item_at}
use Rattle.nddl_instance.specs.Numbers.{rule_numbers, rules_of_pred}
use Rattle.nddl_instance.specs.Putting.{with_rule_numbers}

-- a text for the predicate has its number among the predicate's rules
own_rule : (pred number : ℕ) (tree : PlainTree) (more : List PlainTree) → tree.pred ≡ pred
    → rules_of_pred pred number (tree ∷ more) ≡ number ∷ rules_of_pred pred (number + 1) more
own_rule pred number tree more same =
    ap (λ test. (if test then number ∷ [] else []) ++ rules_of_pred pred (number + 1) more) (eq-eqb tree.pred pred same)

-- a text for another one doesn't
other_rule : (pred number : ℕ) (tree : PlainTree) (more : List PlainTree) → tree.pred ≢ pred
    → rules_of_pred pred number (tree ∷ more) ≡ rules_of_pred pred (number + 1) more
other_rule pred number tree more other =
    ap (λ test. (if test then number ∷ [] else []) ++ rules_of_pred pred (number + 1) more) (ne_eqb tree.pred pred other)

-- the lists of later predicates stay
later_kept : (lists : List (List ℕ)) (pred number : ℕ) (tree : PlainTree) (more : List PlainTree) → tree.pred < pred
    → with_rule_numbers pred number (tree ∷ more) lists ≡ with_rule_numbers pred (number + 1) more lists
later_kept [] pred number tree more earlier = refl
later_kept (list ∷ lists) pred number tree more earlier =
    let other : tree.pred ≢ pred = omega (arith, earlier) in
    let here = other_rule pred number tree more other in
    let rest = later_kept lists (pred + 1) number tree more (omega (arith, earlier)) in
    λ i. (list ++ here i) ∷ rest i

-- the text's number is put into the list of its predicate, if that is there
put_first : (lists : List (List ℕ)) (pred place number : ℕ) (tree : PlainTree) (more : List PlainTree) → tree.pred ≡ pred + place
    → with_rule_numbers pred number (tree ∷ more) lists ≡ with_rule_numbers pred (number + 1) more (with_item_at lists place number)
put_first [] pred place number tree more is = refl
put_first (list ∷ lists) pred zero number tree more is =
    let same : tree.pred ≡ pred = omega (arith, is) in
    let here = ap (λ some. list ++ some) (own_rule pred number tree more same)
    ∙ sym (append_assoc list (number ∷ []) (rules_of_pred pred (number + 1) more)) in
    let rest = later_kept lists (pred + 1) number tree more (omega (arith, is)) in
    λ i. here i ∷ rest i
put_first (list ∷ lists) pred (suc place) number tree more is =
    let other : tree.pred ≢ pred = omega (arith, is) in
    let here = other_rule pred number tree more other in
    let rest = put_first lists (pred + 1) place number tree more (omega (arith, is)) in
    λ i. (list ++ here i) ∷ rest i

-- one text after another
pub put_step : (trees : List PlainTree) (i : ℕ) (tree : PlainTree) (old new whole : List (List ℕ)) → i < length trees
    → tree ≡ get_or trees i tree → new ≡ with_item_at old tree.pred i → with_rule_numbers 0 i (drop i trees) old ≡ whole
    → with_rule_numbers 0 (i + 1) (drop (i + 1) trees) new ≡ whole
put_step trees i tree old new whole within is new_is so_far =
    let rest = drop (i + 1) trees in
    let first : tree ∷ rest ≡ drop i trees = ap (λ t. t ∷ rest) is ∙ sym (drop_more trees i tree within) in
    let place : tree.pred ≡ 0 + tree.pred = omega arith in
    ap (with_rule_numbers 0 (i + 1) rest) new_is
    ∙ (sym (put_first old 0 tree.pred i tree rest place) ∙ (ap (λ left. with_rule_numbers 0 i left old) first ∙ so_far))

-- without a text the lists stay
none_put : (pred number : ℕ) (lists : List (List ℕ)) → with_rule_numbers pred number [] lists ≡ lists
none_put pred number [] = refl
none_put pred number (list ∷ lists) = λ i. append-nil list i ∷ none_put (pred + 1) number lists i

-- and so they do behind the last one
pub put_end : (trees : List PlainTree) (i : ℕ) (lists whole : List (List ℕ)) → length trees ≤ i
    → with_rule_numbers 0 i (drop i trees) lists ≡ whole → lists ≡ whole
put_end trees i lists whole past so_far =
    sym (none_put 0 i lists) ∙ (ap (λ left. with_rule_numbers 0 i left lists) (sym (drop_all i trees past)) ∙ so_far)

-- with all texts the lists, which have nothing before, are those of the predicates
pub all_put : (trees : List PlainTree) (number : ℕ) (preds : List Pred)
    → with_rule_numbers number 0 trees (map (λ pred. []) preds) ≡ rule_numbers trees number preds
all_put trees number [] = refl
all_put trees number (pred ∷ preds) = ap (λ rest. rules_of_pred number 0 trees ∷ rest) (all_put trees (number + 1) preds)
