-- The classes and predicates of a model are those of its table, by their places.
use Rattle.std.proofs.Common.{◌≡◌, ℕ, zero, suc, ◌+◌, ◌<◌, List, [], ◌∷◌, length, get_or, refl, sym, ◌∙◌, ap, arith}
use Rattle.std.specs.Prelude.{Some, AllPairs, slice_get}
use Rattle.std.specs.Option.{option_map}
use Rattle.model_core.specs.declared.class.Class.{Class}
use Rattle.model_core.specs.declared.class.Pred.{Pred}
use Rattle.nddl_terms.specs.PlainTree.{PlainTree}
use Rattle.nddl_terms.specs.declared.lexicon.Lexicon.{Lexicon}
use Rattle.nddl_instance.specs.Modelled.{modelled_class, modelled_classes, modelled_pred, modelled_preds}
use Rattle.nddl_instance.specs.Numbers.{rules_of_pred}
use Rattle.nddl_laws.proofs.Listed.{DifferInClass}

-- ---- classes

module _ (lexicon : Lexicon) where
  class_from : (number place : ℕ) (some : List Class)
      → slice_get (modelled_classes lexicon number some) place ≡ option_map (modelled_class lexicon (number + place)) (slice_get some place)
  class_from number place [] = refl
  class_from number zero (class ∷ more) =
      let e : number ≡ number + 0 = omega arith in ap (λ (n : ℕ). Some (modelled_class lexicon n class)) e
  class_from number (suc place) (class ∷ more) =
      let e : number + 1 + place ≡ number + suc place = omega arith in
      class_from (number + 1) place more ∙ ap (λ (n : ℕ). option_map (modelled_class lexicon n) (slice_get more place)) e

  -- the class of this number
  pub class_at : (place : ℕ) (some : List Class)
      → slice_get (modelled_classes lexicon 0 some) place ≡ option_map (modelled_class lexicon place) (slice_get some place)
  class_at place some =
      let e : 0 + place ≡ place = omega arith in
      class_from 0 place some ∙ ap (λ (n : ℕ). option_map (modelled_class lexicon n) (slice_get some place)) e

  pub classes_long : (number : ℕ) (some : List Class) → length (modelled_classes lexicon number some) ≡ length some
  classes_long number [] = refl
  classes_long number (class ∷ more) =
      let rest : length (modelled_classes lexicon (number + 1) more) ≡ length more = classes_long (number + 1) more in omega arith

  -- ---- predicates

  module _ (trees : List PlainTree) where
    -- the predicate of this number with its rules
    abbrev pub ruled : ℕ → Pred → Pred
    ruled number pred = modelled_pred lexicon number (rules_of_pred number 0 trees) pred

    pred_from : (number place : ℕ) (some : List Pred)
        → slice_get (modelled_preds lexicon trees number some) place ≡ option_map (ruled (number + place)) (slice_get some place)
    pred_from number place [] = refl
    pred_from number zero (pred ∷ more) =
        let e : number ≡ number + 0 = omega arith in ap (λ (n : ℕ). Some (ruled n pred)) e
    pred_from number (suc place) (pred ∷ more) =
        let e : number + 1 + place ≡ number + suc place = omega arith in
        pred_from (number + 1) place more ∙ ap (λ (n : ℕ). option_map (ruled n) (slice_get more place)) e

    pub pred_at : (place : ℕ) (some : List Pred)
        → slice_get (modelled_preds lexicon trees 0 some) place ≡ option_map (ruled place) (slice_get some place)
    pred_at place some =
        let e : 0 + place ≡ place = omega arith in
        pred_from 0 place some ∙ ap (λ (n : ℕ). option_map (ruled n) (slice_get some place)) e

    pub preds_long : (number : ℕ) (some : List Pred) → length (modelled_preds lexicon trees number some) ≡ length some
    preds_long number [] = refl
    preds_long number (pred ∷ more) =
        let rest : length (modelled_preds lexicon trees (number + 1) more) ≡ length more = preds_long (number + 1) more in omega arith

    -- each keeps its class and its name
    pred_kept : (number : ℕ) (some : List Pred) (k : ℕ) (d : Pred) → k < length some
        → ((get_or (modelled_preds lexicon trees number some) k d).class ≡ (get_or some k d).class)
        × ((get_or (modelled_preds lexicon trees number some) k d).name ≡ (get_or some k d).name)
    pred_kept number [] k d within = absurd (omega arith)
    pred_kept number (pred ∷ more) zero d within = (refl, refl)
    pred_kept number (pred ∷ more) (suc k) d within = pred_kept (number + 1) more k d (omega arith)

    -- so two of one class have different names if those of the table do
    pub preds_differ : (some : List Pred) → AllPairs DifferInClass some
        → AllPairs DifferInClass (modelled_preds lexicon trees 0 some)
    preds_differ some differ = λ i j d before within class name.
        let long : length (modelled_preds lexicon trees 0 some) ≡ length some = preds_long 0 some in
        let later : j < length some = omega (arith, long) in
        let one = pred_kept 0 some i d (omega arith) in
        let other = pred_kept 0 some j d later in
        differ i j d before later (sym one.0 ∙ (class ∙ other.0)) (sym one.1 ∙ (name ∙ other.1))
