-- Members that are handed up.
use Rattle.std.proofs.Common.{◌≡◌, ℕ, zero, suc, ◌+◌, ◌<◌, ◌⊎◌, inl, inr, Bool, true, false, List, [], ◌∷◌, ◌++◌, length, map, replicate, refl, sym, ◌∙◌, ap, subst, arith}
use Rattle.std.specs.Prelude.{Option, Some, None, slice_get, slice_set}
use Rattle.std.specs.Option.{option_and_then}
use Rattle.std.proofs.lemmas.Option.{same_Some, slice_get_within}
use Rattle.eu_forest.specs.Ancestors.{parent_in}
use Rattle.eu_forest.specs.Lines.{LeadsUp, StandsUnder}
use Rattle.eu_forest.specs.Members.{AreGathered, AreHandedUp, AreMembers, IsWithin, Joins, PutsOwn, has_member, is_owner, is_marked, marks_at}
use Rattle.eu_forest.proofs.Marked.{is_own, own_is}
use Rattle.eu_forest.proofs.Sharing.{at_own, at_set, set_length}

-- ---- steps

pub none_gathered : (parents owners : List (Option ℕ)) (count : ℕ) → AreGathered parents owners 0 (replicate (length parents) (replicate count false))
none_gathered parents owners count = record {
  things = length_is (length parents);
  sound = λ thing number has. absurd (idle (length parents) thing number has);
  own = λ owner number less at within. absurd (omega (arith, less));
}
  where
    length_is : (things : ℕ) → length (replicate things (replicate count false)) ≡ things
    length_is zero = refl
    length_is (suc things) = ap suc (length_is things)

    unmarked : (some number : ℕ) → is_marked (replicate some false) number ≡ true → ⊥
    unmarked zero number e = cc
    unmarked (suc some) zero e = cc
    unmarked (suc some) (suc number) e = unmarked some number e

    idle : (things thing number : ℕ) → has_member (replicate things (replicate count false)) thing number ≡ true → ⊥
    idle zero thing number e = cc
    idle (suc things) zero number e = unmarked count number e
    idle (suc things) (suc thing) number e = idle things thing number e

-- a number below the next one is this one, or lies below it
below_cases : (number count : ℕ) → number < count + 1 → (number < count) ⊎ (number ≡ count)
below_cases zero zero less = inr refl
below_cases zero (suc count) less = inl (omega arith)
below_cases (suc number) zero less = absurd (omega (arith, less))
below_cases (suc number) (suc count) less = elim (below_cases number count (omega (arith, less))) [
  | inl low ↦ inl (omega (arith, low))
  | inr same ↦ inr (ap suc same)
]

owner_same : (owners : List (Option ℕ)) (number thing owner : ℕ) → slice_get owners number ≡ Some (Some thing) → slice_get owners number ≡ Some (Some owner) → owner ≡ thing
owner_same owners number thing owner one other = sym (same_Some thing owner (same_Some (Some thing) (Some owner) (sym one ∙ other)))

pub skipped : (parents owners : List (Option ℕ)) (count : ℕ) (found : List (List Bool)) → slice_get owners count ≡ Some None → AreGathered parents owners count found
    → AreGathered parents owners (count + 1) found
skipped parents owners count found none so_far = record {
  things = so_far.things;
  sound = so_far.sound;
  own = λ owner number less at within. elim (below_cases number count less) [
    | inl low ↦ so_far.own owner number low at within
    | inr same ↦ absurd (let e : ◌≡◌ {A = Option ℕ} None (Some owner) = same_Some None (Some owner) (sym none ∙ (ap (slice_get owners) (sym same) ∙ at)) in cc)
  ];
}

-- what the thing owns is put there
put_step : (parents owners : List (Option ℕ)) (count thing : ℕ) (old : List (List Bool)) → slice_get owners count ≡ Some (Some thing) → AreGathered parents owners count old
    → AreGathered parents owners (count + 1) (slice_set old thing (map (is_owner thing) owners))
put_step parents owners count thing old here so_far = record {
  things = set_length old thing (map (is_owner thing) owners) ∙ so_far.things;
  sound = λ other number has. elim (at_set old thing (map (is_owner thing) owners) other) [
    | inl same ↦ so_far.sound other number (ap (λ some. is_marked some number) (sym same) ∙ has)
    | inr set ↦ (thing, own_is thing owners number (ap (λ some. is_marked some number) (sym set.1) ∙ has), ([], set.0))
  ];
  own = λ owner number less at within. elim (at_set old thing (map (is_owner thing) owners) owner) [
    | inl same ↦ elim (below_cases number count less) [
      | inl low ↦ ap (λ some. is_marked some number) same ∙ so_far.own owner number low at within
      | inr now ↦ own_now owner number now at within
    ]
    | inr set ↦ ap (λ some. is_marked some number) set.1
        ∙ is_own thing owners number (at ∙ ap (λ n. Some (Some n)) set.0)
  ];
}
  where
    own_now : (owner number : ℕ) → number ≡ count → slice_get owners number ≡ Some (Some owner) → owner < length parents
        → has_member (slice_set old thing (map (is_owner thing) owners)) owner number ≡ true
    own_now owner number now at within =
        let same : owner ≡ thing = owner_same owners count thing owner here (ap (slice_get owners) (sym now) ∙ at) in
        let inside : thing < length old = (let long = so_far.things in omega (arith, within, same, long)) in
        ap (λ n. has_member (slice_set old thing (map (is_owner thing) owners)) n number) same
        ∙ (ap (λ some. is_marked some number) (at_own old thing (map (is_owner thing) owners) inside)
        ∙ is_own thing owners number (at ∙ ap (λ n. Some (Some n)) same))

pub own_put : (parents owners : List (Option ℕ)) (count thing : ℕ) (old new : List (List Bool)) → slice_get owners count ≡ Some (Some thing)
    → PutsOwn owners count thing old new → AreGathered parents owners count old → AreGathered parents owners (count + 1) new
own_put parents owners count thing old new here puts so_far = elim puts [
  | inl had ↦ subst (AreGathered parents owners (count + 1)) (sym had.0) (record {
    things = so_far.things;
    sound = so_far.sound;
    own = λ owner number less at within. elim (below_cases number count less) [
      | inl low ↦ so_far.own owner number low at within
      | inr now ↦
          ap (λ n. has_member old n number) (owner_same owners count thing owner here (ap (slice_get owners) (sym now) ∙ at))
          ∙ (ap (has_member old thing) now ∙ had.1)
    ];
  })
  | inr is ↦ subst (AreGathered parents owners (count + 1)) (sym is) (put_step parents owners count thing old here so_far)
]

-- one way up goes on by a step
on_up : (parents : List (Option ℕ)) (from : ℕ) (path : List ℕ) (thing parent : ℕ) → LeadsUp parents from path thing → StandsUnder parents thing parent
    → LeadsUp parents from (path ++ parent ∷ []) parent
on_up parents from [] thing parent same under = (subst (λ n. StandsUnder parents n parent) same under, refl)
on_up parents from (next ∷ path) thing parent leads under = (leads.0, on_up parents next path thing parent leads.1 under)

pub handed : (parents owners : List (Option ℕ)) (count thing parent : ℕ) (old new : List (List Bool)) → StandsUnder parents thing parent
    → Joins parent thing old new → AreGathered parents owners count old → AreGathered parents owners count new
handed parents owners count thing parent old new under joins so_far = record {
  things = joins.count ∙ so_far.things;
  sound = λ here number has. elim (joins.sound here number has) [
    | inl before ↦ so_far.sound here number before
    | inr come ↦ (let is = so_far.sound thing number come.1 in (
      is.0,
      is.1,
      (
        is.2.0 ++ parent ∷ [],
        subst (LeadsUp parents is.0 (is.2.0 ++ parent ∷ [])) (sym come.0)
            (on_up parents is.0 is.2.0 thing parent is.2.1 under),
      ),
    ))
  ];
  own = λ owner number less at within. joins.keeps owner number (so_far.own owner number less at within);
}

-- what stands under something, as a look-up tells it
pub stands : (parents : List (Option ℕ)) (thing parent : ℕ) → parent_in parents thing ≡ Some parent → StandsUnder parents thing parent
stands parents thing parent is = by (slice_get parents thing) refl is
  where
    by : (found : Option (Option ℕ)) → slice_get parents thing ≡ found → option_and_then (λ (o : Option ℕ). o) found ≡ Some parent → StandsUnder parents thing parent
    by None at e = absurd (cc)
    by (Some under) at e = at ∙ ap (λ o. Some o) e

is_parent : (parents : List (Option ℕ)) (thing parent : ℕ) → StandsUnder parents thing parent → parent_in parents thing ≡ Some parent
is_parent parents thing parent under = ap (option_and_then (λ (o : Option ℕ). o)) under

pub all_handed : (parents : List (Option ℕ)) (found : List (List Bool)) (count : ℕ) → (count < length parents → ⊥)
    → ((thing parent : ℕ) → thing < count → parent_in parents thing ≡ Some parent → IsWithin (marks_at found thing) (marks_at found parent))
    → AreHandedUp parents found
all_handed parents found count whole each = λ thing parent under.
    let within : thing < length parents = slice_get_within parents thing (Some parent) under in
    each thing parent (omega (arith, whole, within)) (is_parent parents thing parent under)

-- ---- all of them

up_has : (parents : List (Option ℕ)) (found : List (List Bool)) → AreHandedUp parents found → (from number : ℕ) (path : List ℕ) (thing : ℕ)
    → LeadsUp parents from path thing → has_member found from number ≡ true → has_member found thing number ≡ true
up_has parents found up from number [] thing same has = ap (λ n. has_member found n number) same ∙ has
up_has parents found up from number (next ∷ path) thing leads has =
    up_has parents found up next number path thing leads.1 (up from next leads.0 number has)

begins_within : (parents : List (Option ℕ)) (from : ℕ) (path : List ℕ) (thing : ℕ) → LeadsUp parents from path thing → thing < length parents → from < length parents
begins_within parents from [] thing same within = omega (arith, same, within)
begins_within parents from (next ∷ path) thing leads within = slice_get_within parents from (Some next) leads.0

pub all_members : (parents owners : List (Option ℕ)) (found : List (List Bool)) → AreGathered parents owners (length owners) found
    → AreHandedUp parents found → AreMembers parents owners found
all_members parents owners found gathered up = record {
  count = gathered.things;
  sound = gathered.sound;
  whole = λ thing number within is.
      up_has parents found up is.0 number is.2.0 thing is.2.1
      (gathered.own is.0 number (slice_get_within owners number (Some is.0) is.1) is.1
      (begins_within parents is.0 is.2.0 thing is.2.1 within));
}
