-- The edges at places, one place at a time.
use Rattle.std.proofs.Common.{◌≡◌, ◌≢◌, ℕ, ◌+◌, ◌<◌, ℤ, ◌+ℤ◌, ◌↔◌, List, [], ◌∷◌, ◌++◌, length, get_or, drop, refl, sym, ap, ◌∙◌, subst, arith}
use Rattle.std.specs.Prelude.{All, option_to_list}
use Rattle.std.proofs.lemmas.Int.{ints}
use Rattle.std.proofs.lemmas.Option.{slice_get-get_or}
use Rattle.std.proofs.lemmas.List.{drop_more}
use Rattle.std.proofs.lemmas.List.Elements.{All-cons, All-head, All-tail}
use Rattle.temporal_core.specs.declared.edges.Edge.{Edge}
use Rattle.temporal_core.specs.Cycle.{edges_at, gap_sum, LeadsFrom, LeadsBack, IsSimple}

-- the edge at the first place comes first
pub edges_at-cons : (edges : List Edge) (place : ℕ) (places : List ℕ) (d : Edge) → place < length edges → edges_at edges (place ∷ places) ≡ get_or edges place d ∷ edges_at edges places
edges_at-cons edges place places d within = ap (λ o. option_to_list o ++ edges_at edges places) (slice_get-get_or edges place d within)

module _ (edges : List Edge) (places : List ℕ) (within : All (λ place. place < length edges) places) (i : ℕ) (d : Edge) (inside : i < length places) where
  -- the edge at the place that is next comes first of what is left
  pub edges_at-drop : edges_at edges (drop i places) ≡ get_or edges (get_or places i 0) d ∷ edges_at edges (drop (i + 1) places)
  edges_at-drop = ap (edges_at edges) (drop_more places i 0 inside) ∙ edges_at-cons edges (get_or places i 0) (drop (i + 1) places) d (within i 0 inside)

  pub gap_sum_more : (sum : ℤ) → sum +ℤ gap_sum (edges_at edges (drop i places)) ≡ gap_sum (edges_at edges places)
      → (sum +ℤ (get_or edges (get_or places i 0) d).gap) +ℤ gap_sum (edges_at edges (drop (i + 1) places)) ≡ gap_sum (edges_at edges places)
  gap_sum_more sum so_far = let next = ap gap_sum edges_at-drop in omega (arith, ints)

  pub leads_more : (at start : ℕ) (Whole : Type 0) → (LeadsFrom at (edges_at edges (drop i places)) start ↔ Whole) → (get_or edges (get_or places i 0) d).from ≡ at
      → (LeadsFrom (get_or edges (get_or places i 0) d).to (edges_at edges (drop (i + 1) places)) start ↔ Whole)
  leads_more at start Whole so_far here =
      let next = subst (λ list. LeadsFrom at list start ↔ Whole) edges_at-drop so_far in
      (λ rest. next.0 (here, rest), λ whole. (next.1 whole).1)

  pub leads_no_more : (at start : ℕ) (Whole : Type 0) → (LeadsFrom at (edges_at edges (drop i places)) start ↔ Whole) → ((get_or edges (get_or places i 0) d).from ≡ at → ⊥) → Whole → ⊥
  leads_no_more at start Whole so_far elsewhere whole =
      let next = subst (λ list. LeadsFrom at list start ↔ Whole) edges_at-drop so_far in
      elsewhere (next.1 whole).0

  pub all_more : (P : Edge → Type 0) (Whole : Type 0) → (All P (edges_at edges (drop i places)) ↔ Whole) → P (get_or edges (get_or places i 0) d) → (All P (edges_at edges (drop (i + 1) places)) ↔ Whole)
  all_more P Whole so_far here =
      let next = subst (λ list. All P list ↔ Whole) edges_at-drop so_far in
      (λ rest. next.0 (All-cons P (get_or edges (get_or places i 0) d) (edges_at edges (drop (i + 1) places)) here rest), λ whole. All-tail P (get_or edges (get_or places i 0) d) (edges_at edges (drop (i + 1) places)) (next.1 whole))

  pub all_no_more : (P : Edge → Type 0) (Whole : Type 0) → (All P (edges_at edges (drop i places)) ↔ Whole) → (P (get_or edges (get_or places i 0) d) → ⊥) → Whole → ⊥
  all_no_more P Whole so_far not whole =
      let next = subst (λ list. All P list ↔ Whole) edges_at-drop so_far in
      not (All-head P (get_or edges (get_or places i 0) d) (edges_at edges (drop (i + 1) places)) (next.1 whole))

  pub simple_more : (Whole : Type 0) → (IsSimple (edges_at edges (drop i places)) ↔ Whole) → All (λ other. other.from ≢ (get_or edges (get_or places i 0) d).from) (edges_at edges (drop (i + 1) places))
      → (IsSimple (edges_at edges (drop (i + 1) places)) ↔ Whole)
  simple_more Whole so_far here =
      let next = subst (λ list. IsSimple list ↔ Whole) edges_at-drop so_far in
      (λ rest. next.0 (here, rest), λ whole. (next.1 whole).1)

  pub simple_no_more : (Whole : Type 0) → (IsSimple (edges_at edges (drop i places)) ↔ Whole)
      → (All (λ other. other.from ≢ (get_or edges (get_or places i 0) d).from) (edges_at edges (drop (i + 1) places)) → ⊥) → Whole → ⊥
  simple_no_more Whole so_far not whole =
      let next = subst (λ list. IsSimple list ↔ Whole) edges_at-drop so_far in
      not (next.1 whole).0

-- a cycle leads from its first point back to it
pub closed_at : (edges : List Edge) (places : List ℕ) (d : Edge) → All (λ place. place < length edges) places → 0 < length places
    → (LeadsFrom (get_or edges (get_or places 0 0) d).from (edges_at edges places) (get_or edges (get_or places 0 0) d).from ↔ LeadsBack (edges_at edges places))
closed_at edges [] d within some = absurd (omega arith)
closed_at edges (place ∷ places) d within some =
    subst (λ list. LeadsFrom (get_or edges place d).from list (get_or edges place d).from ↔ LeadsBack list) (sym (edges_at-cons edges place places d (All-head (λ place. place < length edges) place places within)))
    (λ leads. leads.1, λ closed. (refl, closed))
