-- Predicates by class and name.
use Rattle.std.specs.Prelude.{◌≡◌, ℕ, ◌+◌, ◌==◌, ◌&&◌, Bool, List, [], ◌∷◌, Option, Some, slice_get, slice_set}
use Rattle.std.specs.List.{position_from}
use Rattle.std.specs.Option.{option_map_or}
use Rattle.std.specs.Str.{bytes_eq}
use Rattle.eu_index.specs.Index.{Noted, noted_number, with_noted}
use Rattle.nddl_terms.specs.declared.lexicon.PredShape.{PredShape}

-- the predicate has this name and is of the class
abbrev pub is_pred_named : ℕ → List ℕ → PredShape → Bool
is_pred_named class name pred = pred.class == class && bytes_eq name pred.name

-- the predicate of this name of the class among these
abbrev pub class_named : ℕ → List ℕ → List PredShape → Option ℕ
class_named class name preds = position_from (is_pred_named class name) 0 preds

-- each of these has the numbers of the predicates of its class by their names
abbrev pub AreNotedByClass : List Noted → List PredShape → Type 0
AreNotedByClass named preds =
    (class : ℕ) (noted : Noted) (name : List ℕ) → slice_get named class ≡ Some noted
    → noted_number noted name ≡ class_named class name preds

-- ---- how they are noted

-- with the number of a predicate of this name of the class, if there is an index of the class
abbrev pub with_pred_name : List Noted → ℕ → List ℕ → ℕ → List Noted
with_pred_name named class name number =
    slice_set named class (with_noted (option_map_or (λ noted. noted) (slice_get named class) []) name number)

-- with those of these predicates, of which the first has this number
abbrev pub with_pred_names : List Noted → ℕ → List PredShape → List Noted
with_pred_names named number [] = named
with_pred_names named number (pred ∷ more) = with_pred_names (with_pred_name named pred.class pred.name number) (number + 1) more
