-- Marks that are found by their places.
use Rattle.std.proofs.Common.{◌≡◌, ℕ, zero, suc, ◌+◌, ◌<◌, ℤ, pos, ◌⊎◌, inl, inr, Bool, true, false, List, [], ◌∷◌, ◌++◌, length, map, replicate, refl, sym, ◌∙◌, ap, subst, arith}
use Rattle.std.specs.Prelude.{Option, Some, None, slice_get, slice_set}
use Rattle.std.specs.Option.{option_map, option_map_or}
use Rattle.std.proofs.lemmas.List.{length-append}
use Rattle.std.proofs.lemmas.Option.{same_Some, slice_get-map}
use Rattle.eu_forest.specs.Members.{AreShared, IsWithin, Joins, Shares, are_marked, has_member, list_at, is_marked, marks_at, numbers_marked, numbers_of, place_or_first}
use Rattle.eu_forest.proofs.Marked.{either_marked, one_marked, same_numbers}

-- what is marked for each thing
abbrev seen : List (List Bool) → List ℕ → List (List Bool)
seen marks places = map (marks_at marks) places

pub at_place : (marks : List (List Bool)) (places : List ℕ) (thing : ℕ)
    → marks_at (seen marks places) thing ≡ option_map_or (marks_at marks) (slice_get places thing) []
at_place marks places thing = ap (λ o. option_map_or (λ some. some) o []) (slice_get-map (marks_at marks) places thing) ∙ by (slice_get places thing)
  where
    by : (o : Option ℕ) → option_map_or (λ some. some) (option_map (marks_at marks) o) [] ≡ option_map_or (marks_at marks) o []
    by None = refl
    by (Some place) = refl

-- ---- one more at the end

before : (marks : List (List Bool)) (more : List Bool) (place : ℕ) → place < length marks → marks_at (marks ++ more ∷ []) place ≡ marks_at marks place
before [] more place within = absurd (omega (arith, within))
before (some ∷ marks) more zero within = refl
before (some ∷ marks) more (suc place) within = before marks more place (omega (arith, within))

at_end : (marks : List (List Bool)) (more : List Bool) → marks_at (marks ++ more ∷ []) (length marks) ≡ more
at_end [] more = refl
at_end (some ∷ marks) more = at_end marks more

pub same_seen : (marks : List (List Bool)) (more : List Bool) (places : List ℕ)
    → ((thing place : ℕ) → slice_get places thing ≡ Some place → place < length marks)
    → seen (marks ++ more ∷ []) places ≡ seen marks places
same_seen marks more [] placed = refl
same_seen marks more (place ∷ places) placed =
    ap (λ first. first ∷ seen (marks ++ more ∷ []) places) (before marks more place (placed zero place refl))
    ∙ ap (λ rest. marks_at marks place ∷ rest) (same_seen marks more places (λ thing other at. placed (suc thing) other at))

pub set_seen : (marks : List (List Bool)) (places : List ℕ) (thing place : ℕ)
    → seen marks (slice_set places thing place) ≡ slice_set (seen marks places) thing (marks_at marks place)
set_seen marks [] thing place = refl
set_seen marks (first ∷ places) zero place = refl
set_seen marks (first ∷ places) (suc thing) place = ap (λ rest. marks_at marks first ∷ rest) (set_seen marks places thing place)

pub put_seen : (marks : List (List Bool)) (places : List ℕ) (thing : ℕ) (more : List Bool) → AreShared marks places
    → seen (marks ++ more ∷ []) (slice_set places thing (length marks)) ≡ slice_set (seen marks places) thing more
put_seen marks places thing more shared =
    set_seen (marks ++ more ∷ []) places thing (length marks)
    ∙ (ap (λ all. slice_set all thing (marks_at (marks ++ more ∷ []) (length marks))) (same_seen marks more places shared.placed)
    ∙ ap (slice_set (seen marks places) thing) (at_end marks more))

past_seen : {X : Type 0} (some : List X) (thing : ℕ) (x : X) → (thing < length some → ⊥) → slice_set some thing x ≡ some
past_seen [] thing x past = refl
past_seen (y ∷ some) zero x past = absurd (past (omega arith))
past_seen (y ∷ some) (suc thing) x past = ap (λ rest. y ∷ rest) (past_seen some thing x (λ within. past (omega (arith, within))))

seen_length : (marks : List (List Bool)) (places : List ℕ) → length (seen marks places) ≡ length places
seen_length marks [] = refl
seen_length marks (place ∷ places) = ap suc (seen_length marks places)

pub put_past : (marks : List (List Bool)) (places : List ℕ) (thing : ℕ) (more : List Bool) → AreShared marks places
    → (thing < length places → ⊥) → seen (marks ++ more ∷ []) places ≡ slice_set (seen marks places) thing more
put_past marks places thing more shared past =
    same_seen marks more places shared.placed
    ∙ sym (past_seen (seen marks places) thing more (λ within. past (let long = seen_length marks places in omega (arith, within, long))))

-- the same, of what is at hand
pub put_is : (marks new : List (List Bool)) (places : List ℕ) (old : List (List Bool)) (thing place : ℕ) (more : List Bool) → AreShared marks places
    → new ≡ marks ++ more ∷ [] → place ≡ length marks → old ≡ seen marks places
    → seen new (slice_set places thing place) ≡ slice_set old thing more
put_is marks new places old thing place more shared is at was =
    (λ i. seen (is i) (slice_set places thing (at i))) ∙ (put_seen marks places thing more shared ∙ ap (λ all. slice_set all thing more) (sym was))

pub put_past_is : (marks new : List (List Bool)) (places : List ℕ) (old : List (List Bool)) (thing : ℕ) (more : List Bool) → AreShared marks places
    → new ≡ marks ++ more ∷ [] → old ≡ seen marks places → (thing < length places → ⊥) → seen new places ≡ slice_set old thing more
put_past_is marks new places old thing more shared is was past =
    ap (λ all. seen all places) is ∙ (put_past marks places thing more shared past ∙ ap (λ all. slice_set all thing more) (sym was))

pub none_is : (marks : List (List Bool)) (places : List ℕ) (count things : ℕ) → marks ≡ replicate count false ∷ [] → places ≡ replicate things 0
    → seen marks places ≡ replicate things (replicate count false)
none_is marks places count things is are = (λ i. seen (is i) (are i)) ∙ by things
  where
    by : (some : ℕ) → seen (replicate count false ∷ []) (replicate some 0) ≡ replicate some (replicate count false)
    by zero = refl
    by (suc some) = ap (λ rest. replicate count false ∷ rest) (by some)

pub share_is : (marks : List (List Bool)) (places : List ℕ) (old : List (List Bool)) (thing other place : ℕ) → old ≡ seen marks places
    → slice_get places other ≡ Some place → Shares thing other old (seen marks (slice_set places thing place))
share_is marks places old thing other place was at = inl (set_seen marks places thing place
    ∙ (λ i. slice_set (sym was i) thing (sym here i)))
  where
    here : marks_at old other ≡ marks_at marks place
    here = ap (λ all. marks_at all other) was ∙ (at_place marks places other ∙ ap (λ o. option_map_or (marks_at marks) o []) at)

-- ---- the places stay right

longer : (marks : List (List Bool)) (more : List Bool) → length (marks ++ more ∷ []) ≡ length marks + 1
longer marks more = length-append marks (more ∷ [])

pub shared_more : (marks : List (List Bool)) (more : List Bool) (places : List ℕ) → AreShared marks places → AreShared (marks ++ more ∷ []) places
shared_more marks more places shared = record {
  placed = λ thing place at. let less : place < length marks = shared.placed thing place at in let long = longer marks more in omega (arith, less, long);
  first = let long = longer marks more in omega (arith, long);
  none = λ number is. shared.none number (ap (λ some. is_marked some number) (sym (before marks more 0 shared.first)) ∙ is);
}

set_cases : (places : List ℕ) (thing place other found : ℕ) → slice_get (slice_set places thing place) other ≡ Some found
    → (slice_get places other ≡ Some found) ⊎ (found ≡ place)
set_cases [] thing place other found at = inl at
set_cases (first ∷ places) zero place zero found at = inr (sym (same_Some place found at))
set_cases (first ∷ places) zero place (suc other) found at = inl at
set_cases (first ∷ places) (suc thing) place zero found at = inl at
set_cases (first ∷ places) (suc thing) place (suc other) found at = set_cases places thing place other found at

pub shared_set : (marks : List (List Bool)) (places : List ℕ) (thing place : ℕ) → place < length marks → AreShared marks places
    → AreShared marks (slice_set places thing place)
shared_set marks places thing place less shared = record {
  placed = λ other found at. elim (set_cases places thing place other found at) [
    | inl old ↦ shared.placed other found old
    | inr new ↦ (let same : found ≡ place = new in omega (arith, same, less))
  ];
  first = shared.first;
  none = shared.none;
}

pub shared_put : (marks : List (List Bool)) (more : List Bool) (places : List ℕ) (thing : ℕ) → AreShared marks places
    → AreShared (marks ++ more ∷ []) (slice_set places thing (length marks))
shared_put marks more places thing shared =
    shared_set (marks ++ more ∷ []) places thing (length marks) (let long = longer marks more in omega (arith, long)) (shared_more marks more places shared)

pub shared_first : (marks : List (List Bool)) (count things : ℕ) → marks ≡ replicate count false ∷ [] → AreShared marks (replicate things 0)
shared_first marks count things is = subst (λ some. AreShared some (replicate things 0)) (sym is) (record {
  placed = λ thing place at. (let same : place ≡ 0 = zeros things thing place at in omega (arith, same));
  first = omega arith;
  none = λ number marked. absurd (idle count number marked);
})
  where
    zeros : (count thing place : ℕ) → slice_get (replicate count 0) thing ≡ Some place → place ≡ 0
    zeros zero thing place at = absurd (cc)
    zeros (suc count) zero place at = sym (same_Some 0 place at)
    zeros (suc count) (suc thing) place at = zeros count thing place at

    idle : (count number : ℕ) → is_marked (replicate count false) number ≡ true → ⊥
    idle zero number e = cc
    idle (suc count) zero e = cc
    idle (suc count) (suc number) e = idle count number e

-- ---- joining

pub at_set : (old : List (List Bool)) (thing : ℕ) (more : List Bool) (here : ℕ)
    → (marks_at (slice_set old thing more) here ≡ marks_at old here) ⊎ ((here ≡ thing) × (marks_at (slice_set old thing more) here ≡ more))
at_set [] thing more here = inl refl
at_set (some ∷ old) zero more zero = inr (refl, refl)
at_set (some ∷ old) zero more (suc here) = inl refl
at_set (some ∷ old) (suc thing) more zero = inl refl
at_set (some ∷ old) (suc thing) more (suc here) = elim (at_set old thing more here) [
  | inl same ↦ inl same
  | inr new ↦ inr (ap suc new.0, new.1)
]

pub at_own : (old : List (List Bool)) (thing : ℕ) (more : List Bool) → thing < length old → marks_at (slice_set old thing more) thing ≡ more
at_own [] thing more within = absurd (omega (arith, within))
at_own (some ∷ old) zero more within = refl
at_own (some ∷ old) (suc thing) more within = at_own old thing more (omega (arith, within))

pub set_length : {X : Type 0} (some : List X) (thing : ℕ) (x : X) → length (slice_set some thing x) ≡ length some
set_length [] thing x = refl
set_length (y ∷ some) zero x = refl
set_length (y ∷ some) (suc thing) x = ap suc (set_length some thing x)

-- what is put there comes from the two, and has all of the first
joins_put : (old new : List (List Bool)) (thing other : ℕ) (more : List Bool) → new ≡ slice_set old thing more
    → ((number : ℕ) → is_marked more number ≡ true → (has_member old thing number ≡ true) ⊎ (has_member old other number ≡ true))
    → ((number : ℕ) → has_member old thing number ≡ true → is_marked more number ≡ true)
    → Joins thing other old new
joins_put old new thing other more is sound keeps = subst (λ some. Joins thing other old some) (sym is) (record {
  count = set_length old thing more;
  sound = λ here number has. elim (at_set old thing more here) [
    | inl same ↦ inl (ap (λ some. is_marked some number) (sym same) ∙ has)
    | inr set ↦ elim (sound number (ap (λ some. is_marked some number) (sym set.1) ∙ has)) [
      | inl first ↦ inl (ap (λ n. has_member old n number) set.0 ∙ first)
      | inr second ↦ inr (set.0, second)
    ]
  ];
  keeps = λ here number has. elim (at_set old thing more here) [
    | inl same ↦ ap (λ some. is_marked some number) same ∙ has
    | inr set ↦ ap (λ some. is_marked some number) set.1 ∙ keeps number (ap (λ n. has_member old n number) (sym set.0) ∙ has)
  ];
})

pub joins_both : (old new : List (List Bool)) (thing other : ℕ) → new ≡ slice_set old thing (are_marked (marks_at old thing) (marks_at old other))
    → Joins thing other old new
joins_both old new thing other is =
    joins_put old new thing other (are_marked (marks_at old thing) (marks_at old other)) is
    (λ number marked. either_marked (marks_at old thing) (marks_at old other) number marked)
    (λ number has. one_marked (marks_at old thing) (marks_at old other) number has)

pub joins_none : (old new : List (List Bool)) (thing other : ℕ) → new ≡ old → Joins thing other old new
joins_none old new thing other is = subst (λ some. Joins thing other old some) (sym is) (record {
  count = refl;
  sound = λ here number has. inl has;
  keeps = λ here number has. has;
})

pub joins_shared : (old new : List (List Bool)) (thing other : ℕ) → IsWithin (marks_at old thing) [] → Shares thing other old new
    → Joins thing other old new
joins_shared old new thing other none shares = elim shares [
  | inl is ↦ joins_put old new thing other (marks_at old other) is (λ number marked. inr marked) (λ number has. absurd (let e : false ≡ true = none number has in cc))
  | inr same ↦ joins_none old new thing other same
]

-- ---- lists

list_of : (marks : List (List Bool)) (place : ℕ) → list_at (map (λ some. map pos (numbers_marked 0 some)) marks) place ≡ map pos (numbers_marked 0 (marks_at marks place))
list_of [] place = refl
list_of (first ∷ marks) zero = refl
list_of (first ∷ marks) (suc place) = list_of marks place

-- what marks nothing has no numbers
no_numbers : (marks : List Bool) → IsWithin marks [] → numbers_marked 0 marks ≡ []
no_numbers marks none = same_numbers marks [] 0 (λ number. by number (is_marked marks number) refl (none number))
  where
    by : (number : ℕ) (b : Bool) → is_marked marks number ≡ b → (is_marked marks number ≡ true → false ≡ true) → is_marked marks number ≡ false
    by number true is never = absurd (let e : false ≡ true = never is in cc)
    by number false is never = is

listed_one : (marks : List (List Bool)) (places : List ℕ) (thing : ℕ) → AreShared marks places
    → list_at (map (λ some. map pos (numbers_marked 0 some)) marks) (place_or_first places thing) ≡ numbers_of (seen marks places) thing
listed_one marks places thing shared =
    list_of marks (place_or_first places thing)
    ∙ (by (slice_get places thing) ∙ ap (λ some. map pos (numbers_marked 0 some)) (sym (at_place marks places thing)))
  where
    by : (found : Option ℕ) → map pos (numbers_marked 0 (marks_at marks (option_map_or (λ place. place) found 0)))
        ≡ map pos (numbers_marked 0 (option_map_or (marks_at marks) found []))
    by None = ap (map pos) (no_numbers (marks_at marks 0) shared.none)
    by (Some place) = refl

pub listed_seen : (marks : List (List Bool)) (places things : List ℕ) (lists : List (List ℤ)) (found : List ℕ) (old : List (List Bool)) → AreShared marks places
    → lists ≡ map (λ some. map pos (numbers_marked 0 some)) marks → found ≡ map (place_or_first places) things → old ≡ seen marks places
    → map (list_at lists) found ≡ map (λ thing. numbers_of old thing) things
listed_seen marks places things lists found old shared are at was =
    (λ i. map (list_at (are i)) (at i)) ∙ (each things ∙ ap (λ all. map (λ thing. numbers_of all thing) things) (sym was))
  where
    each : (some : List ℕ) → map (list_at (map (λ marked. map pos (numbers_marked 0 marked)) marks)) (map (place_or_first places) some)
        ≡ map (λ thing. numbers_of (seen marks places) thing) some
    each [] = refl
    each (thing ∷ some) = (λ i. listed_one marks places thing shared i ∷ each some i)
