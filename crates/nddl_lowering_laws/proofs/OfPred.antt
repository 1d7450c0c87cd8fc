-- The rules of a predicate among those of all texts.
use Rattle.std.proofs.Common.{◌≡◌, ℕ, ◌+◌, ◌⊎◌, inl, inr, List, [], ◌∷◌, ◌++◌, cond, length, map, refl, sym, ◌∙◌, ap, subst, append_assoc, arith, eq-eqb, ne_eqb}
use Rattle.std.specs.Prelude.{Some, slice_get, if◌then◌else◌}
use Rattle.std.specs.List.{AllZip}
use Rattle.std.specs.Option.{option_map}
use Rattle.std.proofs.lemmas.Bool.{cases_eq}
use Rattle.std.proofs.lemmas.List.{length-append}
use Rattle.std.proofs.lemmas.Option.{slice_get-map}
use Rattle.model_core.specs.declared.class.Object.{Object}
use Rattle.model_core.specs.declared.rule.Rule.{Rule}
use Rattle.nddl_terms.specs.PlainTree.{PlainTree}
use Rattle.nddl_terms.specs.declared.lexicon.Lexicon.{Lexicon}
use Rattle.nddl_unroll.specs.Rules.{tree_rule, tree_rules}
use Rattle.nddl_instance.specs.Numbers.{rules_of_pred}
use Rattle.nddl_lowering_laws.specs.Few.{RulesAreListed, pred_rules, pred_trees}

-- a text for the predicate has its number among those of the predicate's rules
numbers_own : (pred number : ℕ) (tree : PlainTree) (more : List PlainTree) → tree.pred ≡ pred
    → rules_of_pred pred number (tree ∷ more) ≡ number ∷ rules_of_pred pred (number + 1) more
numbers_own pred number tree more same =
    ap (λ test. (if test then number ∷ [] else []) ++ rules_of_pred pred (number + 1) more) (eq-eqb tree.pred pred same)

-- a text for another one doesn't
numbers_other : (pred number : ℕ) (tree : PlainTree) (more : List PlainTree) → (tree.pred ≡ pred → ⊥)
    → rules_of_pred pred number (tree ∷ more) ≡ rules_of_pred pred (number + 1) more
numbers_other pred number tree more other =
    ap (λ test. (if test then number ∷ [] else []) ++ rules_of_pred pred (number + 1) more) (ne_eqb tree.pred pred other)

module _ (lexicon : Lexicon) (objects : List Object) where
  pub rules_own : (pred : ℕ) (tree : PlainTree) (more : List PlainTree) → tree.pred ≡ pred
      → pred_rules lexicon objects (tree ∷ more) pred ≡ tree_rule lexicon objects tree ∷ pred_rules lexicon objects more pred
  rules_own pred tree more same =
      ap (λ test. map (tree_rule lexicon objects) (cond test (tree ∷ pred_trees pred more) (pred_trees pred more))) (eq-eqb tree.pred pred same)

  pub rules_other : (pred : ℕ) (tree : PlainTree) (more : List PlainTree) → (tree.pred ≡ pred → ⊥)
      → pred_rules lexicon objects (tree ∷ more) pred ≡ pred_rules lexicon objects more pred
  rules_other pred tree more other =
      ap (λ test. map (tree_rule lexicon objects) (cond test (tree ∷ pred_trees pred more) (pred_trees pred more))) (ne_eqb tree.pred pred other)

  -- ---- at their numbers

  -- the rule of this number is this one
  abbrev IsRuleAt : List PlainTree → ℕ → Rule → Type 0
  IsRuleAt all place rule = slice_get (tree_rules lexicon objects all) place ≡ Some rule

  tree_behind : (front : List PlainTree) (tree : PlainTree) (more : List PlainTree) → slice_get (front ++ tree ∷ more) (length front) ≡ Some tree
  tree_behind [] tree more = refl
  tree_behind (first ∷ front) tree more = tree_behind front tree more

  rule_behind : (all front : List PlainTree) (tree : PlainTree) (more : List PlainTree) (number : ℕ) → all ≡ front ++ tree ∷ more
      → length front ≡ number → IsRuleAt all number (tree_rule lexicon objects tree)
  rule_behind all front tree more number is at =
      let there : slice_get all number ≡ Some tree =
      ap (λ (some : List PlainTree). slice_get some number) is
      ∙ (ap (λ (n : ℕ). slice_get (front ++ tree ∷ more) n) (sym at) ∙ tree_behind front tree more) in
      slice_get-map (tree_rule lexicon objects) all number ∙ ap (option_map (tree_rule lexicon objects)) there

  with_tree : (pred : ℕ) (all : List PlainTree) (number : ℕ) (tree : PlainTree) (more : List PlainTree)
      → IsRuleAt all number (tree_rule lexicon objects tree)
      → AllZip (IsRuleAt all) (rules_of_pred pred (number + 1) more) (pred_rules lexicon objects more pred)
      → (tree.pred ≡ pred) ⊎ (tree.pred ≡ pred → ⊥)
      → AllZip (IsRuleAt all) (rules_of_pred pred number (tree ∷ more)) (pred_rules lexicon objects (tree ∷ more) pred)
  with_tree pred all number tree more here rest (inl same) =
      subst (λ (numbers : List ℕ). AllZip (IsRuleAt all) numbers (pred_rules lexicon objects (tree ∷ more) pred))
      (sym (numbers_own pred number tree more same))
      (subst (λ (rules : List Rule). AllZip (IsRuleAt all) (number ∷ rules_of_pred pred (number + 1) more) rules)
      (sym (rules_own pred tree more same)) (here, rest))
  with_tree pred all number tree more here rest (inr other) =
      subst (λ (numbers : List ℕ). AllZip (IsRuleAt all) numbers (pred_rules lexicon objects (tree ∷ more) pred))
      (sym (numbers_other pred number tree more other))
      (subst (λ (rules : List Rule). AllZip (IsRuleAt all) (rules_of_pred pred (number + 1) more) rules)
      (sym (rules_other pred tree more other)) rest)

  listed_from : (pred : ℕ) (all front trees : List PlainTree) (number : ℕ) → all ≡ front ++ trees → length front ≡ number
      → AllZip (IsRuleAt all) (rules_of_pred pred number trees) (pred_rules lexicon objects trees pred)
  listed_from pred all front [] number is at = tt
  listed_from pred all front (tree ∷ more) number is at =
      let longer : all ≡ (front ++ tree ∷ []) ++ more = is ∙ sym (append_assoc front (tree ∷ []) more) in
      let count : length (front ++ tree ∷ []) ≡ number + 1 = omega (arith, at, length-append front (tree ∷ [])) in
      with_tree pred all number tree more (rule_behind all front tree more number is at)
      (listed_from pred all (front ++ tree ∷ []) more (number + 1) longer count) (cases_eq tree.pred pred)

pub rules_listed : RulesAreListed
rules_listed lexicon objects trees pred = listed_from lexicon objects pred trees [] trees 0 refl refl
