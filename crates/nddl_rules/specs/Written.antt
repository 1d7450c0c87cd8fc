-- Which rules are written for which predicates, and which each predicate has.
use Rattle.std.specs.Prelude.{ℕ, ◌+◌, Bool, true, false, List, [], ◌∷◌, Option, Some, None}
use Rattle.std.specs.Prelude.{map, reverse, slice_get, if◌then◌else◌}
use Rattle.std.specs.List.{flat_map, list_any}
use Rattle.std.specs.Option.{option_and_then, option_map_or}
use Rattle.model_core.specs.declared.class.Class.{Class}
use Rattle.model_core.specs.declared.class.Pred.{Pred}
use Rattle.model_core.specs.Naming.{full_name}
use Rattle.nddl_ast.specs.declared.declaration.Decl.{Decl}
use Rattle.nddl_ast.specs.declared.declaration.Decl.TheVariants as decls
use Rattle.nddl_ast.specs.declared.declaration.Member.{Member}
use Rattle.nddl_ast.specs.declared.declaration.Member.TheVariants as members
use Rattle.nddl_ast.specs.declared.declaration.PredicatePart.{PredicatePart}
use Rattle.nddl_ast.specs.declared.declaration.PredicatePart.TheVariants as parts
use Rattle.eu_index.specs.Index.{Noted, noted_number, with_noted}
use Rattle.eu_forest.specs.Ancestors.{ancestry}
use Rattle.eu_forest.specs.Members.{list_at}
use Rattle.nddl_rules.specs.declared.places.TextPlace.{TextPlace}
use Rattle.nddl_rules.specs.Lists.{with_item_at}

-- ---- predicates by name

-- the name of the class of this number
abbrev pub class_word : List Class → ℕ → List ℕ
class_word classes number = option_map_or (λ class. class.name) (slice_get classes number) []

-- the numbers of predicates by their full names, where the first of these predicates has this number
abbrev pub noted_preds : List Class → Noted → ℕ → List Pred → Noted
noted_preds classes noted number [] = noted
noted_preds classes noted number (pred ∷ more) =
    noted_preds classes (with_noted noted (full_name (class_word classes pred.class) pred.name) number) (number + 1) more

-- the predicate of this name that the class above has, if there is one
abbrev pub inherited_pred : List Class → Noted → List ℕ → Option ℕ → Option ℕ
inherited_pred classes noted name None = None
inherited_pred classes noted name (Some parent) = noted_number noted (full_name (class_word classes parent) name)

-- the predicate that a predicate is inherited from
abbrev pub pred_above : List Class → Noted → Pred → Option ℕ
pred_above classes noted pred =
    inherited_pred classes noted pred.name (option_and_then (λ class. class.parent) (slice_get classes pred.class))

abbrev pub preds_above : List Class → Noted → List Pred → List (Option ℕ)
preds_above classes noted preds = map (pred_above classes noted) preds

-- ---- rules by predicate

-- one more of the predicate of this full name
abbrev pub with_text : Noted → List (List TextPlace) → List ℕ → TextPlace → List (List TextPlace)
with_text noted written name place =
    option_map_or (λ number. with_item_at written number place) (noted_number noted name) written

abbrev pub is_constraint : PredicatePart → Bool
is_constraint (parts.Parameter typed) = false
is_constraint (parts.Constraint call) = true

abbrev pub has_constraint : List PredicatePart → Bool
has_constraint some = list_any is_constraint some

-- with that in the body of the predicate which this member of the class is, if there is one
abbrev pub with_member_text : Noted → ℕ → ℕ → List ℕ → List (List TextPlace) → Member → List (List TextPlace)
with_member_text noted decl place class written (members.Predicate at name some) =
    if has_constraint some
    then with_text noted written (full_name class name.text) (record { decl = decl; member = Some place })
    else written
with_member_text noted decl place class written member = written

abbrev pub with_member_texts : Noted → ℕ → ℕ → List ℕ → List (List TextPlace) → List Member → List (List TextPlace)
with_member_texts noted decl place class written [] = written
with_member_texts noted decl place class written (member ∷ more) =
    with_member_texts noted decl (place + 1) class (with_member_text noted decl place class written member) more

-- with those in the declaration of this number
abbrev pub with_decl_texts : Noted → ℕ → List (List TextPlace) → Decl → List (List TextPlace)
with_decl_texts noted number written (decls.Rule class predicate body) =
    with_text noted written (full_name class.text predicate.text) (record { decl = number; member = None })
with_decl_texts noted number written (decls.Class at name parent some) =
    with_member_texts noted number 0 name.text written some
with_decl_texts noted number written decl = written

-- with those in declarations, of which the first has this number, in order of text
abbrev pub with_texts : Noted → ℕ → List (List TextPlace) → List Decl → List (List TextPlace)
with_texts noted number written [] = written
with_texts noted number written (decl ∷ more) =
    with_texts noted (number + 1) (with_decl_texts noted number written decl) more

-- none for any of the predicates
abbrev pub none_written : List Pred → List (List TextPlace)
none_written preds = map (λ pred. []) preds

-- the rules of a program that are written for each of the predicates
abbrev pub texts_written : Noted → List Pred → List Decl → List (List TextPlace)
texts_written noted preds program = with_texts noted 0 (none_written preds) program

-- the rules that the predicate of this number has, where predicates are inherited from these: those of the topmost ancestor
-- first, and then downwards
abbrev pub places_of : List (Option ℕ) → List (List TextPlace) → ℕ → List TextPlace
places_of above written number = flat_map (list_at written) (reverse (ancestry above number))
