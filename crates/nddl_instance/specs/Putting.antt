-- Numbers of rules that are put into lists, one for each predicate.
use Rattle.std.specs.Prelude.{ℕ, ◌+◌, List, [], ◌∷◌, ◌++◌}
use Rattle.model_core.specs.declared.class.Pred.{Pred}
use Rattle.nddl_terms.specs.PlainTree.{PlainTree}
use Rattle.nddl_terms.specs.declared.lexicon.Lexicon.{Lexicon}
use Rattle.eu_forest.specs.Members.{list_at}
use Rattle.nddl_instance.specs.Modelled.{modelled_pred}
use Rattle.nddl_instance.specs.Numbers.{rules_of_pred}

-- each list with the numbers of its predicate's rules behind it, where the first list is that of the predicate of the first
-- number, and the first text has the second one
abbrev pub with_rule_numbers : ℕ → ℕ → List PlainTree → List (List ℕ) → List (List ℕ)
with_rule_numbers pred number trees [] = []
with_rule_numbers pred number trees (list ∷ more) =
    (list ++ rules_of_pred pred number trees) ∷ with_rule_numbers (pred + 1) number trees more

-- the predicates with the rules of these lists, where the first one has this number
abbrev pub preds_with : Lexicon → List (List ℕ) → ℕ → List Pred → List Pred
preds_with lexicon lists number [] = []
preds_with lexicon lists number (pred ∷ more) =
    modelled_pred lexicon number (list_at lists number) pred ∷ preds_with lexicon lists (number + 1) more
