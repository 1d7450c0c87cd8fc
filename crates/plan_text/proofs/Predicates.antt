-- The predicate in the line of a token.
use Rattle.std.proofs.Common.{◌≡◌, ℕ, ◌<◌, List, ◌++◌, length, Result, Ok, Err, Some, slice_get, get_or, refl, sym, ◌∙◌, ap, codes, arith, append_assoc, length-append}
use Rattle.std.specs.Prelude.{OnOk}
use Rattle.model_core.specs.declared.class.Class.{Class}
use Rattle.model_core.specs.declared.class.Pred.{Pred}
use Rattle.model_core.specs.declared.model.Model.{Model}
use Rattle.model_core.specs.Lawful.{IsLawful}
use Rattle.model_core.proofs.Items.{item_at, item_is, item_within}
use Rattle.plan_text.specs.Words.{IsPaused, IsUnbroken}
use Rattle.plan_text.specs.Subjects.{IsPredicateText, OnePredicate}
use Rattle.plan_text.specs.Writing.{Adds}
use Rattle.plan_text.proofs.Adding.{adds_word}
use Rattle.plan_text.proofs.Unbroken.{unbroken_from, no_gap_append, name_no_gap, name_some}

pub found_pred : (model : Model) (number : ℕ) (items : List Pred) (pred : Pred) → number < length model.preds → items ≡ model.preds → pred ≡ get_or items number pred → slice_get model.preds number ≡ Some pred
found_pred model number items pred there same is = item_at model.preds number pred there ∙ ap Some (sym (is ∙ ap (λ l. get_or l number pred) same))

pub class_within : (model : Model) (number : ℕ) (items : List Pred) (pred : Pred) (classes : List Class) → IsLawful model → number < length model.preds → items ≡ model.preds → pred ≡ get_or items number pred → classes ≡ model.classes
    → pred.class < length classes
class_within model number items pred classes lawful there same is classes_is =
    let at = lawful.preds number pred (found_pred model number items pred there same is) in
    omega (arith, item_within model.classes pred.class at.class at.is_class, ap length classes_is)

pub found_class : (model : Model) (number : ℕ) (pred : Pred) (classes : List Class) (class : Class) → IsLawful model → slice_get model.preds number ≡ Some pred → classes ≡ model.classes → class ≡ get_or classes pred.class class
    → slice_get model.classes pred.class ≡ Some class
found_class model number pred classes class lawful is_pred same is =
    let at = lawful.preds number pred is_pred in
    at.is_class ∙ ap Some (sym (is ∙ (ap (λ l. get_or l pred.class class) same ∙ item_is model.classes pred.class class at.class at.is_class)))

pub predicate_put : {A E : Type 0} (model : Model) (number : ℕ) (items : List Pred) (pred : Pred) (classes : List Class) (class : Class) (front back old mid new : List ℕ) (r : Result A E) → IsLawful model → number < length model.preds
    → items ≡ model.preds → pred ≡ get_or items number pred → classes ≡ model.classes → class ≡ get_or classes pred.class class → front ≡ class.name → back ≡ pred.name
    → mid ≡ old ++ (codes " " ++ front) → OnOk r (new ≡ mid ++ (codes "." ++ back)) → OnOk r (Adds IsPaused (OnePredicate model number) tt old new)
predicate_put model number items pred classes class front back old mid new (Err e) lawful there same is same' is' front_is back_is first second = tt
predicate_put model number items pred classes class front back old mid new (Ok x) lawful there same is same' is' front_is back_is first second =
    let is_pred = found_pred model number items pred there same is in
    let is_class = found_class model number pred classes class lawful is_pred same' is' in
    let class_name = (lawful.classes pred.class class is_class).name in
    let pred_name = (lawful.preds number pred is_pred).name in
    let word = class.name ++ (codes "." ++ pred.name) in
    let whole : IsUnbroken word = unbroken_from word (omega (arith, name_some class.name class_name, length-append class.name (codes "." ++ pred.name)))
    (no_gap_append class.name (codes "." ++ pred.name) (name_no_gap class.name class_name) (refl, name_no_gap pred.name pred_name)) in
    let put : new ≡ old ++ (codes " " ++ word) =
    second ∙ (ap (λ l. l ++ (codes "." ++ back)) (first ∙ ap (λ l. old ++ (codes " " ++ l)) front_is)
    ∙ (append_assoc old (codes " " ++ class.name) (codes "." ++ back) ∙ ap (λ l. old ++ ((codes " " ++ class.name) ++ (codes "." ++ l))) back_is)) in
    adds_word 32 word old new (λ (said : Unit {0}) w. IsPredicateText model number w) _ tt refl whole (record { pred = pred; is_pred = is_pred; class = class; is_class = is_class; whole = refl }) put
