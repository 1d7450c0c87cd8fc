-- Places are in a total order.
use Rattle.std.proofs.Common.{◌≡◌, ◌<◌, ◌≤◌, sym, ◌∙◌, inl, inr, arith}
use Rattle.std.specs.Prelude.{◌⊎◌}
use Rattle.std.proofs.lemmas.Bool.{cases_lt}
use Rattle.eu_name.specs.NameOrder.{IsStrictTotalOrder}
use Rattle.nddl_symbols.specs.declared.place.Place.{Place}
use Rattle.nddl_symbols.specs.Place.{IsPlaceBefore}

irreflexive : (a : Place) → IsPlaceBefore a a → ⊥
irreflexive a (inl less) = omega arith
irreflexive a (inr later) = let less : a.at < a.at = later.1 in omega arith

transitive : (a b c : Place) → IsPlaceBefore a b → IsPlaceBefore b c → IsPlaceBefore a c
transitive a b c (inl p) (inl q) = inl (omega arith)
transitive a b c (inl p) (inr q) = inl (let same : b.decl ≡ c.decl = q.0 in omega arith)
transitive a b c (inr p) (inl q) = inl (let same : a.decl ≡ b.decl = p.0 in omega arith)
transitive a b c (inr p) (inr q) = inr (p.0 ∙ q.0, (let one : a.at < b.at = p.1 in let other : b.at < c.at = q.1 in omega arith))

-- by their declarations and their bytes
by_bytes : (a b : Place) → a.decl ≡ b.decl → (a.at < b.at) ⊎ (b.at ≤ a.at) → (b.at < a.at) ⊎ (a.at ≤ b.at)
    → IsPlaceBefore a b ⊎ ((a ≡ b) ⊎ IsPlaceBefore b a)
by_bytes a b same (inl less) other = inl (inr (same, less))
by_bytes a b same (inr most) (inl less) = inr (inr (inr (sym same, less)))
by_bytes a b same (inr most) (inr least) =
    let at : a.at ≡ b.at = omega arith in inr (inl (λ i. record { decl = same i; at = at i }))

by_decls : (a b : Place) → (a.decl < b.decl) ⊎ (b.decl ≤ a.decl) → (b.decl < a.decl) ⊎ (a.decl ≤ b.decl)
    → IsPlaceBefore a b ⊎ ((a ≡ b) ⊎ IsPlaceBefore b a)
by_decls a b (inl less) other = inl (inl less)
by_decls a b (inr most) (inl less) = inr (inr (inl less))
by_decls a b (inr most) (inr least) =
    by_bytes a b (let same : a.decl ≡ b.decl = omega arith in same) (cases_lt a.at b.at) (cases_lt b.at a.at)

pub places_ordered : IsStrictTotalOrder IsPlaceBefore
places_ordered = record {
  irreflexive = irreflexive;
  transitive = transitive;
  total = λ a b. by_decls a b (cases_lt a.decl b.decl) (cases_lt b.decl a.decl);
}
