-- Who watches a variable.
use Rattle.std.proofs.Common.{◌≡◌, ℕ, zero, suc, ◌==◌, Bool, true, false, cond, List, [], ◌∷◌, filter, slice_get, Some, refl, sym, ap, ◌∙◌, subst}
use Rattle.std.specs.Prelude.{Contains}
use Rattle.std.specs.Option.{option_map}
use Rattle.std.proofs.lemmas.List.Elements.{All-contains, All-contains_itself, All-filter, Contains-append_right, filter_passes}
use Rattle.std.proofs.lemmas.Option.{slice_get-map}
use borrow.Author.Tests.{eqb-true, eq-eqb}
use Rattle.db_store.specs.declared.watchers.Watch.{Watch}
use Rattle.db_store.specs.Stores.{blocks_watching}
use Rattle.db_store.specs.StoreLaws.{WatchersAreListed}
use Rattle.db_store.proofs.Lists.{at_contains, contains_at, unmapped}

-- what passes a test and is there is among those that pass
passes_there : {X : Type 0} (test : X → Bool) (xs : List X) (k : ℕ) (x : X) → slice_get xs k ≡ Some x → test x ≡ true → Contains (filter test xs) x
passes_there test [] k x is passes = absurd (cc)
passes_there test (y ∷ xs) zero x is passes =
    let same : y ≡ x = cc in
    let first : filter test (y ∷ xs) ≡ y ∷ filter test xs = ap (λ b. cond b (y ∷ filter test xs) (filter test xs)) (ap test same ∙ passes) in
    subst (λ list. Contains list x) (sym first) (contains_at (y ∷ filter test xs) 0 x (ap Some same))
passes_there test (y ∷ xs) (suc k) x is passes = by (test y) refl (passes_there test xs k x is passes)
  where
    by : (b : Bool) → test y ≡ b → Contains (filter test xs) x → Contains (filter test (y ∷ xs)) x
    by true e there = subst (λ list. Contains list x) (sym (ap (λ c. cond c (y ∷ filter test xs) (filter test xs)) e)) (Contains-append_right (y ∷ []) (filter test xs) x there)
    by false e there = subst (λ list. Contains list x) (sym (ap (λ c. cond c (y ∷ filter test xs) (filter test xs)) e)) there

module _ (watches : List Watch) (variable block : ℕ) where
  abbrev is_it : Watch → Bool
  is_it watch = watch.variable == variable

  abbrev it : Watch
  it = record { variable = variable; block = block }

  listed_watches : Contains (blocks_watching watches variable) block → Contains watches it
  listed_watches there =
      let at = at_contains (blocks_watching watches variable) block there in
      let is = unmapped (λ (watch : Watch). watch.block) (filter is_it watches) at.0 block at.1 in
      let passed = contains_at (filter is_it watches) at.0 is.0 is.1 in
      let here = All-contains (Contains watches) (filter is_it watches) is.0 (All-filter is_it (Contains watches) watches (All-contains_itself watches)) passed in
      let of = eqb-true is.0.variable variable (All-contains (λ watch. is_it watch ≡ true) (filter is_it watches) is.0 (filter_passes is_it watches) passed) in
      let same : is.0 ≡ it = λ i. record { variable = of i; block = is.2 i } in
      subst (Contains watches) same here

  watches_listed : Contains watches it → Contains (blocks_watching watches variable) block
  watches_listed there =
      let at = at_contains watches it there in
      let passed = passes_there is_it watches at.0 it at.1 (eq-eqb variable variable refl) in
      let place = at_contains (filter is_it watches) it passed in
      contains_at (blocks_watching watches variable) place.0 block
      (slice_get-map (λ (watch : Watch). watch.block) (filter is_it watches) place.0 ∙ ap (option_map (λ (watch : Watch). watch.block)) place.1)

pub watchers_are_listed : WatchersAreListed
watchers_are_listed watches variable block = (listed_watches watches variable block, watches_listed watches variable block)
