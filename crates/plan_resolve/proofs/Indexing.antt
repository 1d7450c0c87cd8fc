-- An index of names, one name after another.
use Rattle.std.proofs.Common.{◌≡◌, ℕ, suc, ◌+◌, ◌<◌, ◌≤◌, ◌^◌, Bool, true, false, cond, List, [], ◌∷◌, ◌++◌, length, map, get_or, Option, Some, None, MatchOption, slice_get, refl, sym, ap, ◌∙◌, subst, ⊎_elim, arith}
use Rattle.std.specs.Prelude.{Contains, take, bytes_eq, Result, Ok, Err, OnOk}
use Rattle.std.specs.Option.{option_or, option_map}
use Rattle.std.proofs.Math.Seq.{take-suc, get_or-append_seam}
use Rattle.std.proofs.lemmas.List.{length-append, length-map, length-take-le, take_all, get_or-map, get_or_append_left}
use Rattle.std.proofs.lemmas.List.Elements.{Contains-push_cases}
use Rattle.std.proofs.lemmas.Option.{get_or_from_slice_get, slice_get-get_or, slice_get-map}
use Rattle.std.proofs.lemmas.Slice.Eq.{bytes_eq-Decides}
use Rattle.model_core.specs.declared.class.Object.{Object}
use Rattle.model_core.specs.declared.model.Model.{Model}
use Rattle.model_core.specs.declared.model.Root.{Root}
use Rattle.model_core.specs.declared.variable.VarDecl.{VarDecl}
use Rattle.model_core.specs.Naming.{labels, global_names}
use Rattle.model_core.specs.Tokens.{IsRoot}
use Rattle.model_core.specs.Variables.{IsGlobal}
use Rattle.eu_index.specs.Index.{Noted, noted_number, with_noted}
use Rattle.eu_index.proofs.Indexes.{noted_with}
use Rattle.eu_name.proofs.Ordered.{contains_none}
use Rattle.eu_name.proofs.Members.{contains_from_get, get_below, get_within}
use Rattle.plan_resolve.specs.Indexing.{IsIndexOf, object_names}

pub index_none : IsIndexOf [] []
index_none name = contains_none name

-- what stands in a front stands in the whole
get_front : (names : List (List ℕ)) (name other : List ℕ) (place : ℕ) → slice_get names place ≡ Some other → slice_get (names ++ name ∷ []) place ≡ Some other
get_front names name other place at =
    let inside = get_below names place other at in
    get_or_there (names ++ name ∷ []) place other (omega (arith, inside, length-append names (name ∷ [])))
    ∙ ap (λ n. Some n) (get_or_append_left names (name ∷ []) other place inside ∙ get_or_from_slice_get names place other other at)
  where
    get_or_there : (xs : List (List ℕ)) (k : ℕ) (d : List ℕ) → k < length xs → slice_get xs k ≡ Some (get_or xs k d)
    get_or_there xs k d less = slice_get-get_or xs k d less

get_last : (names : List (List ℕ)) (name : List ℕ) → slice_get (names ++ name ∷ []) (length names) ≡ Some name
get_last names name =
    slice_get-get_or (names ++ name ∷ []) (length names) name (omega (arith, length-append names (name ∷ [])))
    ∙ ap (λ n. Some n) (get_or-append_seam names name [] name)

pub index_more : (names : List (List ℕ)) (noted : Noted) (name : List ℕ) (place : ℕ) → IsIndexOf names noted → place ≡ length names
    → IsIndexOf (names ++ name ∷ []) (with_noted noted name place)
index_more names noted name place is same other =
    subst (λ (found : Option ℕ). MatchOption found (Contains (names ++ name ∷ []) other → ⊥) (λ p. slice_get (names ++ name ∷ []) p ≡ Some other))
    (sym (noted_with noted name other place)) (by_old (noted_number noted other) (is other))
  where
    by_name : (Contains names other → ⊥) → (b : Bool) → bytes_eq other name ≡ b
        → MatchOption (cond b (Some place) None) (Contains (names ++ name ∷ []) other → ⊥) (λ p. slice_get (names ++ name ∷ []) p ≡ Some other)
    by_name none true e =
        let equal : other ≡ name = (bytes_eq-Decides other name).0 e in
        subst (λ n. slice_get (names ++ name ∷ []) n ≡ Some other) (sym same) (get_last names name ∙ ap (λ n. Some n) (sym equal))
    by_name none false e = λ there. ⊎_elim none
        (λ equal. let yes = (bytes_eq-Decides other name).1 (sym equal) in absurd (let clash : true ≡ false = sym yes ∙ e in cc))
        (Contains-push_cases names name other there)

    by_old : (old : Option ℕ) → MatchOption old (Contains names other → ⊥) (λ p. slice_get names p ≡ Some other)
        → MatchOption (option_or old (cond (bytes_eq other name) (Some place) None)) (Contains (names ++ name ∷ []) other → ⊥) (λ p. slice_get (names ++ name ∷ []) p ≡ Some other)
    by_old (Some p) at = get_front names name other p at
    by_old None none = by_name none (bytes_eq other name) refl

pub next_noted : (noted new : Noted) (name : List ℕ) (place : ℕ) → new ≡ with_noted noted name place
    → (names : List (List ℕ)) → length names ≡ place → IsIndexOf names noted → IsIndexOf (names ++ name ∷ []) new
next_noted noted new name place noted_is names same is =
    subst (IsIndexOf (names ++ name ∷ [])) (sym noted_is) (index_more names noted name place is (sym same))

-- the items before a place, and the one there
pub index_step : {X : Type 0} (f : X → List ℕ) (items : List X) (place : ℕ) (d : X) (new : Noted) (noted : Noted) → place < length items
    → ((names : List (List ℕ)) → length names ≡ place → IsIndexOf names noted → IsIndexOf (names ++ f (get_or items place d) ∷ []) new)
    → IsIndexOf (take place (map f items)) noted → IsIndexOf (take (place + 1) (map f items)) new
index_step f items place d new noted less more is =
    let long = length-map items f in
    let inside : place < length (map f items) = omega (arith, long, less) in
    let here : get_or (map f items) place (f d) ≡ f (get_or items place d) = get_or-map f items place d (f d) less in
    let next : suc place ≡ place + 1 = omega arith in
    subst (λ (k : ℕ). IsIndexOf (take k (map f items)) new) next
    (subst (λ (names : List (List ℕ)). IsIndexOf names new) (sym (take-suc (map f items) place (f d) inside ∙ ap (λ (n : List ℕ). take place (map f items) ++ n ∷ []) here))
    (more (take place (map f items)) (length-take-le place (map f items) (omega (arith, inside))) is))

-- all items
pub index_whole : {X : Type 0} (f : X → List ℕ) (items : List X) (place : ℕ) (noted : Noted) → length items ≤ place
    → IsIndexOf (take place (map f items)) noted → IsIndexOf (map f items) noted
index_whole f items place noted past is =
    let long = length-map items f in
    subst (λ (names : List (List ℕ)). IsIndexOf names noted) (take_all place (map f items) (omega (arith, long, past))) is

-- ---- where a name stands

module _ {X : Type 0} (f : X → List ℕ) (items : List X) (name : List ℕ) where
  named_at : (place : ℕ) (x : X) → slice_get items place ≡ Some x → slice_get (map f items) place ≡ Some (f x)
  named_at place x at = slice_get-map f items place ∙ ap (option_map f) at

  pub place_found : (result : Option ℕ) → MatchOption result (Contains (map f items) name → ⊥) (λ place. slice_get (map f items) place ≡ Some name)
      → MatchOption result ((place : ℕ) (x : X) → slice_get items place ≡ Some x → f x ≡ name → ⊥) (λ place. (x : X) × (slice_get items place ≡ Some x) × (f x ≡ name))
  place_found None none = λ place x at same. none (contains_from_get (map f items) place name (named_at place x at ∙ ap (λ n. Some n) same))
  place_found (Some place) at =
      let below = get_below (map f items) place name at in
      let found = get_within items place (omega (arith, below, length-map items f)) in
      (found.0, found.1, same_name (f found.0) name (sym (named_at place found.0 found.1) ∙ at))
    where
      same_name : (a b : List ℕ) → Some a ≡ Some b → a ≡ b
      same_name a b same = cc

pub few_labels : (inner model : Model) → inner ≡ model → length model.problem.roots < 2 ^ 32 → length (labels inner) < 2 ^ 32
few_labels inner model same few =
    let all = length-map inner.problem.roots (λ (root : Root). root.label) in
    let long = ap (λ (m : Model). length m.problem.roots) same in
    omega (arith, all, long, few)

pub few_names : (inner model : Model) → inner ≡ model → length model.problem.globals < 2 ^ 32 → length (global_names inner) < 2 ^ 32
few_names inner model same few =
    let all = length-map inner.problem.globals (λ (variable : VarDecl). variable.name) in
    let long = ap (λ (m : Model). length m.problem.globals) same in
    omega (arith, all, long, few)

pub label_found : (inner model : Model) (label : List ℕ) (result : Option ℕ) → inner ≡ model
    → MatchOption result (Contains (labels inner) label → ⊥) (λ place. slice_get (labels inner) place ≡ Some label)
    → MatchOption result ((number : ℕ) (root : Root) → IsRoot model number root → root.label ≡ label → ⊥) (λ number. (root : Root) × IsRoot model number root × (root.label ≡ label))
label_found inner model label result same found =
    subst (λ (m : Model). MatchOption result ((number : ℕ) (root : Root) → IsRoot m number root → root.label ≡ label → ⊥) (λ number. (root : Root) × IsRoot m number root × (root.label ≡ label))) same
    (place_found (λ (root : Root). root.label) inner.problem.roots label result found)

pub name_found : (inner model : Model) (name : List ℕ) (result : Option ℕ) → inner ≡ model
    → MatchOption result (Contains (global_names inner) name → ⊥) (λ place. slice_get (global_names inner) place ≡ Some name)
    → MatchOption result ((number : ℕ) (variable : VarDecl) → IsGlobal model number variable → variable.name ≡ name → ⊥) (λ number. (variable : VarDecl) × IsGlobal model number variable × (variable.name ≡ name))
name_found inner model name result same found =
    subst (λ (m : Model). MatchOption result ((number : ℕ) (variable : VarDecl) → IsGlobal m number variable → variable.name ≡ name → ⊥) (λ number. (variable : VarDecl) × IsGlobal m number variable × (variable.name ≡ name))) same
    (place_found (λ (variable : VarDecl). variable.name) inner.problem.globals name result found)

pub object_found : (inner model : Model) (noted : Noted) (word : List ℕ) (result : Option ℕ) → inner ≡ model → result ≡ noted_number noted word → IsIndexOf (object_names inner.objects) noted
    → MatchOption result ((place : ℕ) (object : Object) → slice_get model.objects place ≡ Some object → object.name ≡ word → ⊥)
    (λ place. (object : Object) × (slice_get model.objects place ≡ Some object) × (object.name ≡ word))
object_found inner model noted word result same is index =
    let found = subst (λ (p : Option ℕ). MatchOption p (Contains (object_names inner.objects) word → ⊥) (λ k. slice_get (object_names inner.objects) k ≡ Some word)) (sym is) (index word) in
    subst (λ (m : Model). MatchOption result ((place : ℕ) (object : Object) → slice_get m.objects place ≡ Some object → object.name ≡ word → ⊥) (λ place. (object : Object) × (slice_get m.objects place ≡ Some object) × (object.name ≡ word))) same
    (place_found (λ (object : Object). object.name) inner.objects word result found)

-- the name that was noted as bytes is the next one, unless memory ran out
pub noted_next : {A E : Type 0} (r : Result A E) (noted new : Noted) (word name : List ℕ) (place : ℕ) → word ≡ name → OnOk r (new ≡ with_noted noted word place)
    → OnOk r ((names : List (List ℕ)) → length names ≡ place → IsIndexOf names noted → IsIndexOf (names ++ name ∷ []) new)
noted_next (Ok done) noted new word name place same is = next_noted noted new name place (is ∙ ap (λ n. with_noted noted n place) same)
noted_next (Err fault) noted new word name place same is = tt

-- the number of a place among few names is the place
pub few_places : (noted : Noted) (name : List ℕ) (place : ℕ) → Some place ≡ noted_number noted name → (names : List (List ℕ)) × IsIndexOf names noted × (length names < 2 ^ 32) → place < 2 ^ 32
few_places noted name place is few =
    let at = subst (λ (found : Option ℕ). MatchOption found (Contains few.0 name → ⊥) (λ p. slice_get few.0 p ≡ Some name)) (sym is) (few.1 name) in
    let below = get_below few.0 place name at in
    let all = few.2 in
    omega (arith, below, all)

pub some_place : (noted : Noted) (name : List ℕ) (place : ℕ) → Some place ≡ noted_number noted name → (names : List (List ℕ)) → IsIndexOf names noted → slice_get names place ≡ Some name
some_place noted name place found names is = subst (λ (p : Option ℕ). MatchOption p (Contains names name → ⊥) (λ k. slice_get names k ≡ Some name)) (sym found) (is name)

pub none_placed : (noted : Noted) (name : List ℕ) → None ≡ noted_number noted name → (names : List (List ℕ)) → IsIndexOf names noted → Contains names name → ⊥
none_placed noted name found names is = subst (λ (p : Option ℕ). MatchOption p (Contains names name → ⊥) (λ k. slice_get names k ≡ Some name)) (sym found) (is name)
