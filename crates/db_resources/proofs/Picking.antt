-- What is picked from a list, a step at a time.
use Rattle.std.proofs.Common.{◌≡◌, ℕ, ◌+◌, ◌<◌, ◌≤◌, List, [], ◌∷◌, ◌++◌, length, get_or, drop, Option, Some, None, inl, inr, refl, sym, subst, append_assoc, append-nil}
use Rattle.std.specs.Prelude.{MatchOption, option_to_list, All}
use Rattle.std.proofs.lemmas.List.{drop_more, drop_all}
use Rattle.std.proofs.lemmas.List.Elements.{All-nil, All-cons, All-head, All-tail}
use Rattle.db_resources.specs.Picks.{Picks}

module _ {X Y : Type 0} (Has : X → Y → Type 0) where
  -- whatever is picked from the rest, it is picked behind what was found so far
  abbrev pub GoesOn : List X → ℕ → List Y → Type 0
  GoesOn items i found = (rest : List Y) → Picks Has (drop i items) rest → Picks Has items (found ++ rest)

  one_more : (item : X) (items : List X) (one : Option Y) → MatchOption one ((thing : Y) → Has item thing → ⊥) (Has item)
      → (rest : List Y) → Picks Has items rest → Picks Has (item ∷ items) (option_to_list one ++ rest)
  one_more item items None none rest picks = inr (none, picks)
  one_more item items (Some thing) has rest picks = inl (thing, (rest, (has, refl, picks)))

  pub picks_more : (items : List X) (i : ℕ) (d : X) (found new : List Y) (one : Option Y) → i < length items
      → GoesOn items i found → MatchOption one ((thing : Y) → Has (get_or items i d) thing → ⊥) (Has (get_or items i d))
      → new ≡ found ++ option_to_list one → GoesOn items (i + 1) new
  picks_more items i d found new one within so_far has is rest picks =
      let more = one_more (get_or items i d) (drop (i + 1) items) one has rest picks in
      let here = subst (λ list. Picks Has list (option_to_list one ++ rest)) (sym (drop_more items i d within)) more in
      let all = so_far (option_to_list one ++ rest) here in
      subst (λ front. Picks Has items (front ++ rest)) (sym is)
      (subst (Picks Has items) (sym (append_assoc found (option_to_list one) rest)) all)

  pub picks_all : (items : List X) (i : ℕ) (found : List Y) → length items ≤ i → GoesOn items i found → Picks Has items found
  picks_all items i found end so_far =
      subst (Picks Has items) (append-nil found)
      (so_far [] (subst (λ list. Picks Has list []) (sym (drop_all i items end)) refl))

  -- what is so of each thing is so of all that are picked
  pub picked_all : (Q : X → Type 0) (P : Y → Type 0) → ((item : X) (thing : Y) → Q item → Has item thing → P thing)
      → (items : List X) (picked : List Y) → All Q items → Picks Has items picked → All P picked
  picked_all Q P each [] picked all is = subst (All P) (sym is) (All-nil P)
  picked_all Q P each (item ∷ items) picked all (inl (thing, (rest, (has, is, picks)))) =
      subst (All P) (sym is)
      (All-cons P thing rest (each item thing (All-head Q item items all) has) (picked_all Q P each items rest (All-tail Q item items all) picks))
  picked_all Q P each (item ∷ items) picked all (inr (none, picks)) = picked_all Q P each items picked (All-tail Q item items all) picks

-- what is picked from what is picked is picked from the first list
pub picks_through : {X Y Z : Type 0} (First : X → Y → Type 0) (Second : Y → Z → Type 0)
    → ((item : X) (one other : Y) → First item one → First item other → one ≡ other)
    → (items : List X) (between : List Y) (picked : List Z) → Picks First items between → Picks Second between picked
    → Picks (λ item thing. (middle : Y) × First item middle × Second middle thing) items picked
picks_through {X} {Y} {Z} First Second once [] between picked first second =
    subst (λ list. Picks Second list picked) first second
picks_through {X} {Y} {Z} First Second once (item ∷ items) between picked (inl (middle, (rest, (has, is, first)))) second =
    elim (let whole : Picks Second (middle ∷ rest) picked = subst (λ list. Picks Second list picked) is second in whole) [
      | inl found ↦ inl (found.0, (found.1.0, ((middle, has, found.1.1.0), found.1.1.1, picks_through First Second once items rest found.1.0 first found.1.1.2)))
      | inr none ↦ inr (
        λ thing (other, has', thing_has). none.0 thing (subst (λ y. Second y thing) (once item other middle has' has) thing_has),
        picks_through First Second once items rest picked first none.1,
      )
    ]
picks_through {X} {Y} {Z} First Second once (item ∷ items) between picked (inr (none, first)) second =
    inr (λ thing (other, has, thing_has). none other has, picks_through First Second once items between picked first second)
