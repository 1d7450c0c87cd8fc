-- A list of different things can be put in order.
use Rattle.std.proofs.Common.{◌≡◌, List, [], ◌∷◌, ◌⊎◌, inl, inr, subst}
use Rattle.std.specs.Prelude.{Contains, AllPairs, ◌↔◌, ◌≢◌}
use Rattle.eu_name.specs.NameOrder.{IsStrictTotalOrder}
use Rattle.eu_name.proofs.Ordered.{contains_head, contains_later, contains_cases, contains_none, ordered_head, ordered_tail, ordered_none, ordered_cons, ordered_one, ordered_link}

module _ {X : Type 0} (before : X → X → Type 0) (transitive : (x y z : X) → before x y → before y z → before x z) where
  -- which of the two comes first is known
  abbrev pub Differ : X → X → Type 0
  Differ x y = before x y ⊎ before y x

  -- the list in order that has the item and those of the other list
  record Put (x : X) (xs : List X) : Type 0 where
    list : List X
    ordered : AllPairs before list
    from : (y : X) → Contains list y → (x ≡ y) ⊎ Contains xs y
    has : Contains list x
    keeps : (y : X) → Contains xs y → Contains list y

  put : (x : X) (xs : List X) → AllPairs before xs → ((y : X) → Contains xs y → Differ x y) → Put x xs
  put x [] ordered differ = record {
    list = x ∷ [];
    ordered = ordered_one before x;
    from = λ y c. contains_cases x y [] c;
    has = contains_head x [];
    keeps = λ y c. absurd (contains_none y c);
  }
  put x (first ∷ xs) ordered differ = elim (differ first (contains_head first xs)) [
    | inl earlier ↦ record {
      list = x ∷ first ∷ xs;
      ordered = ordered_link before transitive x first xs earlier ordered;
      from = λ y c. contains_cases x y (first ∷ xs) c;
      has = contains_head x (first ∷ xs);
      keeps = λ y c. contains_later x y (first ∷ xs) c;
    }
    | inr later ↦ (let rest = put x xs (ordered_tail before first xs ordered) (λ y c. differ y (contains_later first y xs c)) in record {
      list = first ∷ rest.list;
      ordered = ordered_cons before first rest.list (λ y c. elim (rest.from y c) [
        | inl same ↦ subst (before first) same later
        | inr there ↦ ordered_head before first xs ordered y there
      ]) rest.ordered;
      from = λ y c. elim (contains_cases first y rest.list c) [
        | inl same ↦ inr (subst (Contains (first ∷ xs)) same (contains_head first xs))
        | inr behind ↦ elim (rest.from y behind) [ inl same ↦ inl same | inr there ↦ inr (contains_later first y xs there) ]
      ];
      has = contains_later first x rest.list rest.has;
      keeps = λ y c. elim (contains_cases first y xs c) [
        | inl same ↦ subst (Contains (first ∷ rest.list)) same (contains_head first rest.list)
        | inr behind ↦ contains_later first y rest.list (rest.keeps y behind)
      ];
    })
  ]

  -- the list in order that has what the other list has
  pub record Sorted (xs : List X) : Type 0 where
    pub list : List X
    pub ordered : AllPairs before list
    pub same : (y : X) → Contains xs y ↔ Contains list y

  pub sorted : (xs : List X) → AllPairs Differ xs → Sorted xs
  sorted [] differ = record { list = []; ordered = ordered_none before; same = λ y. (λ c. c, λ c. c) }
  sorted (x ∷ xs) differ =
      let rest = sorted xs (ordered_tail Differ x xs differ) in
      let all = put x rest.list rest.ordered (λ y c. ordered_head Differ x xs differ y ((rest.same y).1 c)) in
      record {
        list = all.list;
        ordered = all.ordered;
        same = λ y. (
          λ c. elim (contains_cases x y xs c) [
            | inl same ↦ subst (Contains all.list) same all.has
            | inr behind ↦ all.keeps y ((rest.same y).0 behind)
          ],
          λ c. elim (all.from y c) [
            | inl same ↦ subst (Contains (x ∷ xs)) same (contains_head x xs)
            | inr there ↦ contains_later x y xs ((rest.same y).1 there)
          ],
        );
      }

-- of different things in a total order one comes first
pub one_first : {X : Type 0} (before : X → X → Type 0) → IsStrictTotalOrder before → (x y : X) → x ≢ y → before x y ⊎ before y x
one_first before law x y apart = elim (law.total x y) [
  | inl first ↦ inl first
  | inr (inl same) ↦ absurd (apart same)
  | inr (inr second) ↦ inr second
]
