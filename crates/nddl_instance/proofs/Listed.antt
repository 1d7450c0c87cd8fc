-- Predicates with the rules that are listed for them.
use Rattle.std.proofs.Common.{◌≡◌, ℕ, zero, suc, ◌+◌, List, [], ◌∷◌, refl, ◌∙◌, ap, arith}
use Rattle.model_core.specs.declared.class.Pred.{Pred}
use Rattle.nddl_terms.specs.PlainTree.{PlainTree}
use Rattle.nddl_terms.specs.declared.lexicon.Lexicon.{Lexicon}
use Rattle.eu_forest.specs.Members.{list_at}
use Rattle.nddl_instance.specs.Modelled.{modelled_pred, modelled_preds}
use Rattle.nddl_instance.specs.Numbers.{rule_numbers, rules_of_pred}
use Rattle.nddl_instance.specs.Putting.{preds_with}

listed_from : (lexicon : Lexicon) (trees : List PlainTree) (lists : List (List ℕ)) (number : ℕ) (preds : List Pred)
    → ((place : ℕ) → list_at lists (number + place) ≡ list_at (rule_numbers trees number preds) place)
    → preds_with lexicon lists number preds ≡ modelled_preds lexicon trees number preds
listed_from lexicon trees lists number [] same = refl
listed_from lexicon trees lists number (pred ∷ preds) same =
    let begins : number ≡ number + zero = omega arith in
    let here : list_at lists number ≡ rules_of_pred number 0 trees = ap (list_at lists) begins ∙ same zero in
    let goes_on : (place : ℕ) → list_at lists (number + 1 + place) ≡ list_at (rule_numbers trees (number + 1) preds) place = λ place.
    let moved : number + 1 + place ≡ number + suc place = omega arith in ap (list_at lists) moved ∙ same (suc place) in
    let rest = listed_from lexicon trees lists (number + 1) preds goes_on in
    λ i. modelled_pred lexicon number (here i) pred ∷ rest i

-- each predicate has the rules of the list of its number
pub preds_listed : (lexicon : Lexicon) (trees : List PlainTree) (preds : List Pred)
    → preds_with lexicon (rule_numbers trees 0 preds) 0 preds ≡ modelled_preds lexicon trees 0 preds
preds_listed lexicon trees preds =
    listed_from lexicon trees (rule_numbers trees 0 preds) 0 preds
    (λ place. let same : 0 + place ≡ place = omega arith in ap (list_at (rule_numbers trees 0 preds)) same)
