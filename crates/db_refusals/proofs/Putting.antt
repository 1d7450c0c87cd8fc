-- What is put in order is in order, and has what was put.
use Rattle.std.proofs.Common.{◌≡◌, ◌+◌, List, [], ◌∷◌, ◌⊎◌, inl, inr, length, refl, subst, arith}
use Rattle.std.specs.Prelude.{Contains, AllPairs, ◌↔◌}
use Rattle.eu_name.proofs.Ordered.{contains_head, contains_later, contains_cases, contains_none, ordered_head, ordered_tail, ordered_none, ordered_cons, ordered_one, ordered_link}
use Rattle.db_refusals.specs.InOrder.{placed, put_in, in_order}

module _ {X : Type 0} (Before Ties : X → X → Type 0) (compare : (x y : X) → Before x y ⊎ (Ties x y ⊎ Before y x))
    (transitive : (x y z : X) → Before x y → Before y z → Before x z) where
  -- the list is in order, and has the item and those of the other list
  record IsPut (x : X) (xs list : List X) : Type 0 where
    ordered : AllPairs Before list
    from : (y : X) → Contains list y → (x ≡ y) ⊎ Contains xs y
    has : Contains list x
    keeps : (y : X) → Contains xs y → Contains list y
    long : length list ≡ length xs + 1

  placed_is : (x first : X) (xs rest : List X) → AllPairs Before (first ∷ xs) → (Ties x first → ⊥) → IsPut x xs rest
      → (which : Before x first ⊎ (Ties x first ⊎ Before first x)) → IsPut x (first ∷ xs) (placed Before Ties compare x first xs rest which)
  unfolding placed
  placed_is x first xs rest ordered apart is (inl earlier) = record {
    ordered = ordered_link Before transitive x first xs earlier ordered;
    from = λ y c. contains_cases x y (first ∷ xs) c;
    has = contains_head x (first ∷ xs);
    keeps = λ y c. contains_later x y (first ∷ xs) c;
    long = omega arith;
  }
  placed_is x first xs rest ordered apart is (inr (inl tied)) = absurd (apart tied)
  placed_is x first xs rest ordered apart is (inr (inr later)) = record {
    ordered = ordered_cons Before first rest (λ y c. elim (is.from y c) [
      | inl same ↦ subst (Before first) same later
      | inr there ↦ ordered_head Before first xs ordered y there
    ]) is.ordered;
    from = λ y c. elim (contains_cases first y rest c) [
      | inl same ↦ inr (subst (Contains (first ∷ xs)) same (contains_head first xs))
      | inr behind ↦ elim (is.from y behind) [ inl same ↦ inl same | inr there ↦ inr (contains_later first y xs there) ]
    ];
    has = contains_later first x rest is.has;
    keeps = λ y c. elim (contains_cases first y xs c) [
      | inl same ↦ subst (Contains (first ∷ rest)) same (contains_head first rest)
      | inr behind ↦ contains_later first y rest (is.keeps y behind)
    ];
    long = let long = is.long in omega arith;
  }

  put_is : (x : X) (xs : List X) → AllPairs Before xs → ((y : X) → Contains xs y → Ties x y → ⊥) → IsPut x xs (put_in Before Ties compare x xs)
  unfolding put_in
  put_is x [] ordered apart = record {
    ordered = ordered_one Before x;
    from = λ y c. contains_cases x y [] c;
    has = contains_head x [];
    keeps = λ y c. absurd (contains_none y c);
    long = omega arith;
  }
  put_is x (first ∷ xs) ordered apart =
      placed_is x first xs (put_in Before Ties compare x xs) ordered (apart first (contains_head first xs))
      (put_is x xs (ordered_tail Before first xs ordered) (λ y c. apart y (contains_later first y xs c))) (compare x first)

  -- the list is in order, and the same as the other one
  pub record AreSame (xs list : List X) : Type 0 where
    pub ordered : AllPairs Before list
    pub same : (y : X) → Contains xs y ↔ Contains list y
    pub long : length list ≡ length xs

  abbrev Apart : X → X → Type 0
  Apart x y = Ties x y → ⊥

  pub in_order_is : (xs : List X) → AllPairs Apart xs → AreSame xs (in_order Before Ties compare xs)
  unfolding in_order
  in_order_is [] apart = record { ordered = ordered_none Before; same = λ y. (λ c. c, λ c. c); long = refl }
  in_order_is (x ∷ xs) apart =
      let rest = in_order_is xs (ordered_tail Apart x xs apart) in
      let all = put_is x (in_order Before Ties compare xs) rest.ordered (λ y c. ordered_head Apart x xs apart y ((rest.same y).1 c)) in
      record {
        ordered = all.ordered;
        same = λ y. (
          λ c. elim (contains_cases x y xs c) [
            | inl same ↦ subst (Contains (put_in Before Ties compare x (in_order Before Ties compare xs))) same all.has
            | inr behind ↦ all.keeps y ((rest.same y).0 behind)
          ],
          λ c. elim (all.from y c) [
            | inl same ↦ subst (Contains (x ∷ xs)) same (contains_head x xs)
            | inr there ↦ contains_later x y xs ((rest.same y).1 there)
          ],
        );
        long = let one = rest.long in let more = all.long in omega arith;
      }
