-- The numbers of predicates by their names, for each class.
use Rattle.std.proofs.Common.{◌≡◌, ℕ, zero, suc, ◌+◌, ◌<◌, ◌≤◌, Bool, true, false, cond, List, [], ◌∷◌, length, refl, sym, ◌∙◌, ap, arith}
use Rattle.std.proofs.lemmas.Bool.{eqb-false, eqb-true}
use Rattle.std.specs.Prelude.{◌≢◌, ◌==◌, ◌&&◌, Option, Some, None, All, slice_get, slice_set, slice_index_or, if◌then◌else◌}
use Rattle.std.specs.List.{position_from}
use Rattle.std.specs.Option.{option_map, option_map_or, option_or}
use Rattle.std.specs.Str.{bytes_eq}
use Rattle.std.proofs.lemmas.Option.{same_Some}
use Rattle.model_core.proofs.Items.{item_is, item_within}
use Rattle.eu_index.specs.Index.{Noted, noted_number, with_noted}
use Rattle.eu_index.proofs.Indexes.{noted_with}
use Rattle.nddl_terms.specs.declared.lexicon.PredShape.{PredShape}
use Rattle.nddl_terms.specs.Preds.{AreNotedByClass, class_named, is_pred_named, with_pred_name, with_pred_names}

-- ---- one more is noted

-- what is read within a list
read_within : (named : List Noted) (class : ℕ) (other : Noted) → class < length named
    → slice_index_or named class other ≡ option_map_or (λ noted. noted) (slice_get named class) []
read_within [] class other within = absurd (omega arith)
read_within (noted ∷ named) zero other within = refl
read_within (noted ∷ named) (suc class) other within = read_within named class other (omega arith)

pub note_here : (old new : List Noted) (class : ℕ) (noted more other : Noted) (name : List ℕ) (number : ℕ) → class < length old
    → noted ≡ slice_index_or old class other → more ≡ with_noted noted name number → new ≡ slice_set old class more
    → new ≡ with_pred_name old class name number
note_here old new class noted more other name number within read note set =
    set ∙ ap (slice_set old class) (note ∙ ap (λ some. with_noted some name number) (read ∙ read_within old class other within))

set_past : {X : Type 0} (old : List X) (place : ℕ) (x : X) → length old ≤ place → old ≡ slice_set old place x
set_past [] place x past = refl
set_past (y ∷ old) zero x past = absurd (omega arith)
set_past (y ∷ old) (suc place) x past = ap (λ rest. y ∷ rest) (set_past old place x (omega arith))

pub note_past : (old : List Noted) (class : ℕ) (name : List ℕ) (number : ℕ) → length old ≤ class → old ≡ with_pred_name old class name number
note_past old class name number past =
    set_past old class (with_noted (option_map_or (λ noted. noted) (slice_get old class) []) name number) past

-- ---- what is found of one class

-- the number of a name in the index of the class, if there is one
abbrev found_in : List Noted → ℕ → List ℕ → Option (Option ℕ)
found_in named class name = option_map (λ noted. noted_number noted name) (slice_get named class)

-- a name or nothing
abbrev either : Option ℕ → Option (Option ℕ) → Option (Option ℕ)
either other found = option_map (λ one. option_or one other) found

or_none : (found : Option ℕ) → option_or found None ≡ found
or_none None = refl
or_none (Some number) = refl

either_none : (found : Option (Option ℕ)) → either None found ≡ found
either_none None = refl
either_none (Some one) = ap Some (or_none one)

-- in the index of its own class the name is found
found_here : (named : List Noted) (class : ℕ) (word name : List ℕ) (number : ℕ)
    → found_in (with_pred_name named class word number) class name
    ≡ either (if bytes_eq name word then Some number else None) (found_in named class name)
found_here [] class word name number = refl
found_here (noted ∷ named) zero word name number = ap Some (noted_with noted word name number)
found_here (noted ∷ named) (suc class) word name number = found_here named class word name number

get_other : {X : Type 0} (some : List X) (place other : ℕ) (x : X) → place ≢ other → slice_get (slice_set some place x) other ≡ slice_get some other
get_other [] place other x differ = refl
get_other (y ∷ some) zero zero x differ = absurd (differ refl)
get_other (y ∷ some) zero (suc other) x differ = refl
get_other (y ∷ some) (suc place) zero x differ = refl
get_other (y ∷ some) (suc place) (suc other) x differ = get_other some place other x (λ same. differ (ap suc same))

-- and the others stay
found_elsewhere : (named : List Noted) (place class : ℕ) (word name : List ℕ) (number : ℕ) → place ≢ class
    → found_in (with_pred_name named place word number) class name ≡ found_in named class name
found_elsewhere named place class word name number differ =
    ap (option_map (λ noted. noted_number noted name))
    (get_other named place class (with_noted (option_map_or (λ noted. noted) (slice_get named place) []) word number) differ)

-- a predicate more is found where it is the one
found_more : (named : List Noted) (pred : PredShape) (number class : ℕ) (name : List ℕ)
    → found_in (with_pred_name named pred.class pred.name number) class name
    ≡ either (if is_pred_named class name pred then Some number else None) (found_in named class name)
found_more named pred number class name = by (pred.class == class) refl
  where
    by : (b : Bool) → (pred.class == class) ≡ b
        → found_in (with_pred_name named pred.class pred.name number) class name
        ≡ either (if is_pred_named class name pred then Some number else None) (found_in named class name)
    by true same =
        let is : class ≡ pred.class = sym (eqb-true pred.class class same) in
        ap (λ c. found_in (with_pred_name named pred.class pred.name number) c name) is
        ∙ (found_here named pred.class pred.name name number
        ∙ (λ i. either (if sym same i && bytes_eq name pred.name then Some number else None) (found_in named (sym is i) name)))
    by false other =
        found_elsewhere named pred.class class pred.name name number (eqb-false pred.class class other)
        ∙ (sym (either_none (found_in named class name))
        ∙ (λ i. either (if sym other i && bytes_eq name pred.name then Some number else None) (found_in named class name)))

-- ---- what is found of all

either_joined : (found : Option (Option ℕ)) (is : Bool) (number : ℕ) (rest : Option ℕ)
    → either rest (either (if is then Some number else None) found) ≡ either (cond is (Some number) rest) found
either_joined None is number rest = refl
either_joined (Some None) true number rest = refl
either_joined (Some None) false number rest = refl
either_joined (Some (Some one)) is number rest = refl

-- with all predicates noted, the first of a name is found
found_all : (named : List Noted) (number : ℕ) (preds : List PredShape) (class : ℕ) (name : List ℕ)
    → found_in (with_pred_names named number preds) class name
    ≡ either (position_from (is_pred_named class name) number preds) (found_in named class name)
found_all named number [] class name = sym (either_none (found_in named class name))
found_all named number (pred ∷ more) class name =
    let rest = position_from (is_pred_named class name) (number + 1) more in
    found_all (with_pred_name named pred.class pred.name number) (number + 1) more class name
    ∙ (ap (either rest) (found_more named pred number class name)
    ∙ either_joined (found_in named class name) (is_pred_named class name pred) number rest)

-- where nothing was noted before, what is found is the first of the predicates
pub all_noted : (named new : List Noted) (preds : List PredShape) → All (λ noted. noted ≡ []) named → new ≡ with_pred_names named 0 preds
    → AreNotedByClass new preds
all_noted named new preds none is class noted name at = by (slice_get named class) refl
  where
    whole : Some (noted_number noted name) ≡ either (class_named class name preds) (found_in named class name)
    whole = sym (ap (option_map (λ some. noted_number some name)) at)
        ∙ (ap (λ some. found_in some class name) is ∙ found_all named 0 preds class name)

    by : (found : Option Noted) → slice_get named class ≡ found → noted_number noted name ≡ class_named class name preds
    by None past =
        let e : Some (noted_number noted name) ≡ None =
        whole ∙ ap (λ found. either (class_named class name preds) (option_map (λ some. noted_number some name) found)) past in
        absurd (cc)
    by (Some old) there =
        let empty : old ≡ [] = sym (item_is named class old old there) ∙ none class old (item_within named class old there) in
        let e : Some (noted_number noted name) ≡ Some (class_named class name preds) =
        whole
        ∙ (ap (λ found. either (class_named class name preds) (option_map (λ some. noted_number some name) found)) there
        ∙ ap (λ some. Some (option_or (noted_number some name) (class_named class name preds))) empty) in
        same_Some (noted_number noted name) (class_named class name preds) e
