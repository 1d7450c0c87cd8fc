-- Fields and predicates by the numbers of their classes and their names.
use Rattle.std.proofs.Common.{◌≡◌, ℕ, zero, suc, ◌+◌, ◌<◌, ◌≤◌, Bool, true, false, ◌↔◌, List, [], ◌∷◌, ◌++◌, length, get_or, take, drop, map, slice_get, Some, None, IsTrue, Result, Ok, Err, All, Contains, ◌⊎◌, inl, inr, refl, sym, ap, ◌∙◌, subst, arith}
use Rattle.std.specs.Prelude.{◌≢◌, AllPairs, IfOk}
use Rattle.std.proofs.lemmas.List.{take_all}
use Rattle.std.proofs.lemmas.List.Elements.{All-get_or, Contains-append_left, Contains-append_cases, Contains-push, Contains-push_cases}
use Rattle.eu_name.proofs.Members.{get_same, get_below, get_within}
use Rattle.model_core.specs.declared.class.Class.{Class}
use Rattle.model_core.specs.declared.class.Pred.{Pred}
use Rattle.model_core.specs.declared.variable.VarDecl.{VarDecl}
use Rattle.model_core.specs.Naming.{names_of}
use Rattle.model_core.proofs.Distinct.{pairs_front, pairs_back}
use Rattle.model_rules.specs.Distinct.{AddsNew, AddsAll, AreApart, AreFree, HasFieldNamed, HasFields, HasMore, field_key, pred_key}
use Rattle.model_rules.proofs.Adding.{apart_more, apart_joined, apart_parts, apart_keys, keys_apart, map-append, take_more}

-- ---- what is there and what comes

pub none_more : {K : Type 0} (old : List K) → AllPairs ◌≢◌ old → HasMore old [] old
none_more old apart = record {
  apart = apart;
  has = λ key. (λ has. inl has, λ either. elim either [ inl has ↦ has | inr none ↦ absurd (omega (arith, none.1)) ]);
}

pub one_more : {K : Type 0} (old more now new : List K) (key : K) (is_new : Bool) → HasMore old more now → AddsNew now key is_new new → HasMore old (more ++ key ∷ []) new
one_more old more now new key true before (fresh, same) = record {
  apart = subst (AllPairs ◌≢◌) (sym same) (apart_more now key before.apart fresh);
  has = λ other. (
    λ has. elim (Contains-push_cases now key other (subst (λ l. Contains l other) same has)) [
      | inl there ↦ elim ((before.has other).0 there) [ inl old_one ↦ inl old_one | inr came ↦ inr (Contains-append_left more (key ∷ []) other came) ]
      | inr is ↦ inr (subst (Contains (more ++ key ∷ [])) is (Contains-push more key))
    ],
    λ either. subst (λ l. Contains l other) (sym same) (elim either [
      | inl old_one ↦ Contains-append_left now (key ∷ []) other ((before.has other).1 (inl old_one))
      | inr came ↦ elim (Contains-push_cases more key other came) [
        | inl earlier ↦ Contains-append_left now (key ∷ []) other ((before.has other).1 (inr earlier))
        | inr is ↦ subst (Contains (now ++ key ∷ [])) is (Contains-push now key)
      ]
    ]),
  );
}
one_more old more now new key false before (there, same) = subst (HasMore old (more ++ key ∷ [])) (sym same) (record {
  apart = before.apart;
  has = λ other. (
    λ has. elim ((before.has other).0 has) [ inl old_one ↦ inl old_one | inr came ↦ inr (Contains-append_left more (key ∷ []) other came) ],
    λ either. elim either [
      | inl old_one ↦ (before.has other).1 (inl old_one)
      | inr came ↦ elim (Contains-push_cases more key other came) [
        | inl earlier ↦ (before.has other).1 (inr earlier)
        | inr is ↦ subst (Contains now) is there
      ]
    ],
  );
})

module _ {X K : Type 0} (f : X → K) (old : List K) (xs : List X) (i : ℕ) where
  pub came_more : (x : X) (now new : List K) (is_new : Bool) → i < length xs → x ≡ get_or xs i x → HasMore old (map f (take i xs)) now → AddsNew now (f x) is_new new
      → HasMore old (map f (take (i + 1) xs)) new
  came_more x now new is_new below is before adds =
      subst (λ l. HasMore old l new) (sym (ap (map f) (take_more xs i x below is) ∙ map-append f (take i xs) (x ∷ []))) (one_more old (map f (take i xs)) now new (f x) is_new before adds)

  pub came_all : (now : List K) → length xs ≤ i → HasMore old (map f (take i xs)) now → HasMore old (map f xs) now
  came_all now past before = subst (λ l. HasMore old (map f l) now) (take_all i xs past) before

-- ---- fields of classes

pub field_in : (class : ℕ) (fields : List VarDecl) (other : ℕ) (name : List ℕ) → Contains (map (field_key class) fields) (other, name) → (other ≡ class) × Contains (names_of fields) name
field_in class [] other name has = absurd (omega (arith, has.1))
field_in class (field ∷ fields) other name (zero, below, is) =
    (sym (ap (λ (k : ℕ × List ℕ). k.0) is), (0, omega arith, ap (λ (k : ℕ × List ℕ). k.1) is))
field_in class (field ∷ fields) other name (suc k, below, is) =
    let rest = field_in class fields other name (k, omega (arith, below), is) in
    (rest.0, (suc rest.1.0, (let b = rest.1.1 in omega (arith, b)), rest.1.2))

pub in_field : (class : ℕ) (fields : List VarDecl) (name : List ℕ) → Contains (names_of fields) name → Contains (map (field_key class) fields) (class, name)
in_field class [] name has = absurd (omega (arith, has.1))
in_field class (field ∷ fields) name (zero, below, is) = (0, omega arith, (λ i. (class, is i)))
in_field class (field ∷ fields) name (suc k, below, is) =
    let rest = in_field class fields name (k, omega (arith, below), is) in
    (suc rest.0, (let b = rest.1 in omega (arith, b)), rest.2)

get_taken : {X : Type 0} (xs : List X) (n k : ℕ) (x : X) → slice_get (take n xs) k ≡ Some x → slice_get xs k ≡ Some x
get_taken xs zero k x at = cc
get_taken [] (suc n) k x at = cc
get_taken (y ∷ xs) (suc n) zero x at = at
get_taken (y ∷ xs) (suc n) (suc k) x at = get_taken xs n k x at

take_got : {X : Type 0} (xs : List X) (n k : ℕ) (x : X) → k < n → slice_get xs k ≡ Some x → slice_get (take n xs) k ≡ Some x
take_got xs zero k x below at = absurd (omega (arith, below))
take_got [] (suc n) k x below at = cc
take_got (y ∷ xs) (suc n) zero x below at = at
take_got (y ∷ xs) (suc n) (suc k) x below at = take_got xs n k x (omega (arith, below)) at

taken_below : {X : Type 0} (xs : List X) (n k : ℕ) (x : X) → slice_get (take n xs) k ≡ Some x → k < n
taken_below xs zero k x at = cc
taken_below [] (suc n) k x at = cc
taken_below (y ∷ xs) (suc n) zero x at = omega arith
taken_below (y ∷ xs) (suc n) (suc k) x at = let rest = taken_below xs n k x at in omega (arith, rest)

at_place : {X : Type 0} (xs : List X) (k : ℕ) (x : X) → k < length xs → x ≡ get_or xs k x → slice_get xs k ≡ Some x
at_place [] k x below is = absurd (omega (arith, below))
at_place (y ∷ xs) zero x below is = ap (λ z. Some z) (sym is)
at_place (y ∷ xs) (suc k) x below is = at_place xs k x (omega (arith, below)) is

pub no_fields : (keys : List (ℕ × List ℕ)) (classes : List Class) → keys ≡ [] → HasFields (take 0 classes) keys
no_fields keys classes none = subst (HasFields []) (sym none) (record {
  apart = λ i j d less below same. omega (arith, below);
  has = λ class name. (λ has. absurd (omega (arith, has.1)), λ has. (let at = has.1 in cc));
})

pub more_fields : (classes : List Class) (i : ℕ) (class : Class) (now new : List (ℕ × List ℕ)) → i < length classes → class ≡ get_or classes i class
    → HasFields (take i classes) now → HasMore now (map (field_key i) class.fields) new → HasFields (take (i + 1) classes) new
more_fields classes i class now new below is before more = record {
  apart = more.apart;
  has = λ number name. (
    λ has. elim ((more.has (number, name)).0 has) [
      | inl old ↦ (let there = (before.has number name).0 old in
          (there.0, take_got classes (i + 1) number there.0 (let b = taken_below classes i number there.0 there.1 in omega (arith, b)) (get_taken classes i number there.0 there.1), there.2))
      | inr came ↦ (let inside = field_in i class.fields number name came in
          (class, take_got classes (i + 1) number class (let same = inside.0 in omega (arith, same)) (subst (λ (n : ℕ). slice_get classes n ≡ Some class) (sym inside.0) (at_place classes i class below is)), inside.1))
    ],
    λ has. (more.has (number, name)).1 (by number name has),
  );
}
  where
    by : (number : ℕ) (name : List ℕ) → HasFieldNamed (take (i + 1) classes) number name → Contains now (number, name) ⊎ Contains (map (field_key i) class.fields) (number, name)
    by number name (found, at, named) = elim (same_or_not number i) [
      | inl same ↦ (
          let here : slice_get classes number ≡ Some class = subst (λ (n : ℕ). slice_get classes n ≡ Some class) (sym same) (at_place classes i class below is) in
          let one : found ≡ class = get_same classes number found class (get_taken classes (i + 1) number found at) here in
          inr (subst (λ (n : ℕ). Contains (map (field_key i) class.fields) (n, name)) (sym same) (in_field i class.fields name (subst (λ (c : Class). Contains (names_of c.fields) name) one named))))
      | inr apart ↦ (
          let small = taken_below classes (i + 1) number found at in
          let less : number < i = below_other number i small apart in
          inl ((before.has number name).1 (found, take_got classes i number found less (get_taken classes (i + 1) number found at), named)))
    ]
      where
        same_or_not : (one other : ℕ) → (one ≡ other) ⊎ (one ≡ other → ⊥)
        same_or_not zero zero = inl refl
        same_or_not zero (suc other) = inr (λ e. omega arith)
        same_or_not (suc one) zero = inr (λ e. omega arith)
        same_or_not (suc one) (suc other) = elim (same_or_not one other) [ inl e ↦ inl (ap suc e) | inr n ↦ inr (λ e. n (omega arith)) ]

        below_other : (one other : ℕ) → one < other + 1 → (one ≡ other → ⊥) → one < other
        below_other one other small apart = omega (arith, small, apart)

pub all_fields : (classes : List Class) (i : ℕ) (now : List (ℕ × List ℕ)) → length classes ≤ i → HasFields (take i classes) now → HasFields classes now
all_fields classes i now past before = subst (λ (l : List Class). HasFields l now) (take_all i classes past) before

-- ---- predicates behind fields

key_of : (preds : List Pred) (key : ℕ × List ℕ) → Contains (map pred_key preds) key → (k : ℕ) × (k < length preds) × ((d : Pred) → pred_key (get_or preds k d) ≡ key)
key_of [] key has = absurd (omega (arith, has.1))
key_of (pred ∷ preds) key (zero, below, is) = (0, omega arith, λ d. is)
key_of (pred ∷ preds) key (suc k, below, is) = let rest = key_of preds key (k, omega (arith, below), is) in (suc rest.0, (let b = rest.1 in omega (arith, b)), rest.2)

key_there : (preds : List Pred) (k : ℕ) (d : Pred) → k < length preds → Contains (map pred_key preds) (pred_key (get_or preds k d))
key_there [] k d below = absurd (omega (arith, below))
key_there (pred ∷ preds) zero d below = (0, omega arith, refl)
key_there (pred ∷ preds) (suc k) d below = let rest = key_there preds k d (omega (arith, below)) in (suc rest.0, (let b = rest.1 in omega (arith, b)), rest.2)

module _ (classes : List Class) (preds : List Pred) (fields new : List (ℕ × List ℕ)) (are : HasFields classes fields) where
  both_apart : AllPairs ◌≢◌ (fields ++ map pred_key preds) → AreApart preds × AreFree classes preds
  both_apart apart = (
    apart_keys preds (pairs_back ◌≢◌ fields (map pred_key preds) apart),
    λ k d below named. apart_parts fields (map pred_key preds) (pred_key (get_or preds k d)) apart
        ((are.has (get_or preds k d).class (get_or preds k d).name).1 named) (key_there preds k d below),
  )

  apart_both : AreApart preds → AreFree classes preds → AllPairs ◌≢◌ (fields ++ map pred_key preds)
  apart_both apart free = apart_joined fields (map pred_key preds) are.apart (keys_apart preds apart) (λ key front back.
      (let at = key_of preds key back in
      let pred : Pred = get_or preds at.0 (some preds at.0 at.1) in
      let is : pred_key pred ≡ key = at.2 (some preds at.0 at.1) in
      All-get_or (λ p. HasFieldNamed classes p.class p.name → ⊥) preds at.0 (some preds at.0 at.1) at.1 free
      ((are.has pred.class pred.name).0 (subst (Contains fields) (sym is) front))))
    where
      some : (list : List Pred) (k : ℕ) → k < length list → Pred
      some [] k below = absurd (omega (arith, below))
      some (pred ∷ list) k below = pred

  pub parted : {E : Type 0} (result : Result Bool E) → IfOk result (λ all_new. AddsAll fields (map pred_key preds) all_new new)
      → IfOk result (λ answer. IsTrue answer ↔ (AreApart preds × AreFree classes preds))
  parted (Ok true) adds = (λ told. both_apart (subst (AllPairs ◌≢◌) adds.0 adds.1), λ both. refl)
  parted (Ok false) adds = (λ told. absurd (cc), λ both. absurd (adds (apart_both both.0 both.1)))
  parted (Err error) adds = adds
