-- Lists whose items are there once, and what is found in them.
use Rattle.std.proofs.Common.{◌≡◌, ℕ, zero, suc, ◌+◌, ◌<◌, ◌≤◌, inl, inr, List, [], ◌∷◌, ◌++◌, length, map, slice_get, Option, Some, None, Bool, true, false, not, if◌then◌else◌, get_or, refl, sym, ap, ◌∙◌, subst, arith}
use Rattle.std.specs.Prelude.{◌≢◌, AllPairs, Contains, is_some, position, Ok}
use Rattle.std.specs.List.{list_any, position_or_len}
use Rattle.std.proofs.lemmas.Bool.{cases_lt}
use Rattle.std.proofs.lemmas.List.Elements.{Contains-append_left, Contains-append_right, Contains-get_or}
use Rattle.std.proofs.lemmas.List.Folds.{list_any_at}
use Rattle.std.proofs.lemmas.List.Sums.{position_or_len_is}
use Rattle.std.proofs.lemmas.List.Quantifiers.{all_pairs_push, position-Some}
use Rattle.std.proofs.lemmas.Option.{slice_get-get_or, slice_get_within, get_or_from_slice_get}
use Rattle.eu_name.specs.Laws.{DecidesEquality}
use Rattle.indexmap.specs.IndexSet.{insert_key}
use Rattle.indexmap.proofs.CallerLemmas.{Contains-list_any}
use Rattle.db_store.specs.Puts.{FindsItem, PutsItem}

abbrev pub AreOnce : {X : Type 0} → List X → Type 0
AreOnce {X} xs = AllPairs (λ one other. one ≢ other) xs

-- one more that isn't there
pub once_push : {X : Type 0} (xs : List X) (y : X) → AreOnce xs → (Contains xs y → ⊥) → AreOnce (xs ++ y ∷ [])
once_push xs y once fresh = all_pairs_push (λ one other. one ≢ other) xs y once (λ k d below same. fresh (subst (Contains xs) same (Contains-get_or xs k d below)))

-- what stands at a place is there
pub contains_at : {X : Type 0} (xs : List X) (k : ℕ) (x : X) → slice_get xs k ≡ Some x → Contains xs x
contains_at xs k x is = (k, slice_get_within xs k x is, get_or_from_slice_get xs k x x is)

-- and what is there stands at a place
pub at_contains : {X : Type 0} (xs : List X) (x : X) → Contains xs x → (k : ℕ) × (slice_get xs k ≡ Some x)
at_contains xs x there = (there.0, slice_get-get_or xs there.0 x there.1 ∙ ap Some there.2)

-- where a test tells the item, it is found where it is
pub finds_item : {X : Type 0} (test : X → X → Bool) → DecidesEquality test → (items : List X) (item : X) (found : Option ℕ)
    → found ≡ position (test item) items → is_some found ≡ list_any (test item) items → FindsItem items item found
finds_item test tells items item None is some = λ there.
    let any : list_any (test item) items ≡ true = list_any_at (test item) items there.0 item there.1 ((tells item _).1 (sym there.2)) in
    cc
finds_item test tells items item (Some k) is some =
    let at = position-Some (test item) items k item (sym is) in
    slice_get-get_or items k item at.0 ∙ ap Some (sym ((tells item _).0 at.1))

is_false : (b : Bool) → (b ≡ true → ⊥) → b ≡ false
is_false true never = absurd (never refl)
is_false false never = refl

is_true : (b : Bool) → (b ≡ false → ⊥) → b ≡ true
is_true true never = refl
is_true false never = absurd (never refl)

-- no test passes where none of the items is this one
none_there : {X : Type 0} (test : X → X → Bool) → DecidesEquality test → (items : List X) (item : X) → list_any (test item) items ≡ false → Contains items item → ⊥
none_there test tells items item none there =
    let any : list_any (test item) items ≡ true = list_any_at (test item) items there.0 item there.1 ((tells item _).1 (sym there.2)) in
    cc

last_place : {X : Type 0} (test : X → X → Bool) (items : List X) (item : X) → list_any (test item) items ≡ false → position_or_len (test item) items ≡ length items
last_place test items item none =
    position_or_len_is (test item) items (length items) item (omega arith)
    (λ k below. is_false (test item (get_or items k item)) (λ passes. let any = list_any_at (test item) items k item below passes in cc))
    (λ past. absurd (omega arith))

-- what putting an item in answers and leaves
module _ {X : Type 0} (test : X → X → Bool) (tells : DecidesEquality test) (old new : List X) (item : X) (number : ℕ) (added : Bool)
    (is : new ≡ insert_key test old item) (place : number ≡ position_or_len (test item) old) (told : added ≡ not (list_any (test item) old)) where
  pub puts_new : added ≡ true → PutsItem item old (Ok (Some number)) new
  puts_new new_one =
      let none : list_any (test item) old ≡ false = is_false (list_any (test item) old) (λ any. let old_one : added ≡ false = told ∙ ap not any in cc) in (
        place ∙ last_place test old item none,
        none_there test tells old item none,
        is ∙ ap (λ any. if any then old else (old ++ item ∷ [])) none,
      )

  pub puts_none : added ≡ false → PutsItem item old (Ok None) new
  puts_none old_one =
      let any : list_any (test item) old ≡ true = is_true (list_any (test item) old) (λ none. let new_one : added ≡ true = told ∙ ap not none in cc) in
      (Contains-list_any test (λ x y. (tells x y).0) old item any, is ∙ ap (λ any. if any then old else (old ++ item ∷ [])) any)

-- what was found is there, and what wasn't isn't
pub found_there : {X : Type 0} (items : List X) (item : X) (found : Option ℕ) → FindsItem items item found → true ≡ is_some found → Contains items item
found_there items item None finds some = absurd (cc)
found_there items item (Some k) finds some = contains_at items k item finds

pub found_nowhere : {X : Type 0} (items : List X) (item : X) (found : Option ℕ) → FindsItem items item found → false ≡ is_some found → Contains items item → ⊥
found_nowhere items item None finds none = finds
found_nowhere items item (Some k) finds none = absurd (cc)

-- what stands in a list by another name stands in the list
pub unmapped : {X Y : Type 0} (f : X → Y) (xs : List X) (k : ℕ) (y : Y) → slice_get (map f xs) k ≡ Some y → (x : X) × (slice_get xs k ≡ Some x) × (f x ≡ y)
unmapped f [] k y is = absurd (cc)
unmapped f (x ∷ xs) zero y is = (x, refl, cc)
unmapped f (x ∷ xs) (suc k) y is = unmapped f xs k y is

-- ---- numbers that are pushed

pub more_pushed : (numbers : List ℕ) (last number : ℕ) → Contains numbers number → Contains (numbers ++ last ∷ []) number
more_pushed numbers last number there = Contains-append_left numbers (last ∷ []) number there

-- all numbers from the one up to the last that is pushed
pub all_pushed : (from : ℕ) (numbers : List ℕ) (last : ℕ) → ((number : ℕ) → from ≤ number → number < last → Contains numbers number)
    → (number : ℕ) → from ≤ number → number < last + 1 → Contains (numbers ++ last ∷ []) number
all_pushed from numbers last all number over below = elim (cases_lt number last) [
  | inl less ↦ more_pushed numbers last number (all number over less)
  | inr least ↦ subst (Contains (numbers ++ last ∷ [])) (let same : last ≡ number = omega (arith, below, least) in same)
      (Contains-append_right numbers (last ∷ []) last (0, omega arith, refl))
]
