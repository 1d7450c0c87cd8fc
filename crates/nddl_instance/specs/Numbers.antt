-- The numbers of the rules of predicates.
use Rattle.std.specs.Prelude.{ℕ, ◌+◌, ◌==◌, List, [], ◌∷◌, ◌++◌, if◌then◌else◌}
use Rattle.model_core.specs.declared.class.Pred.{Pred}
use Rattle.nddl_terms.specs.PlainTree.{PlainTree}

-- the numbers of those texts that are for the predicate of this number; the first of the texts has the second number
abbrev pub rules_of_pred : ℕ → ℕ → List PlainTree → List ℕ
rules_of_pred pred number [] = []
rules_of_pred pred number (tree ∷ more) =
    (if tree.pred == pred then number ∷ [] else []) ++ rules_of_pred pred (number + 1) more

-- those of each of these predicates, of which the first has this number
abbrev pub rule_numbers : List PlainTree → ℕ → List Pred → List (List ℕ)
rule_numbers trees number [] = []
rule_numbers trees number (pred ∷ more) = rules_of_pred number 0 trees ∷ rule_numbers trees (number + 1) more
