-- Lists with given members, in order.
use Rattle.std.proofs.Common.{◌≡◌, ℕ, zero, suc, ◌<◌, ◌⊎◌, inl, inr, ⊎_elim, List, [], ◌∷◌, ◌++◌, sym, ◌∙◌, subst, arith}
use Rattle.std.specs.Prelude.{AllPairs, Contains, ◌↔◌}
use Rattle.std.proofs.lemmas.Bool.{cases_lt}
use Rattle.std.proofs.lemmas.List.Elements.{Contains-append_left, Contains-append_right, Contains-push}
use Rattle.eu_name.specs.NameOrder.{IsStrictTotalOrder}
use Rattle.plan_defs.proofs.Knowing.{IsOrNot}
use Rattle.eu_name.proofs.Ordered.{contains_head, contains_later, contains_cases, contains_none, ordered_none, ordered_cons, ordered_head, ordered_tail}

-- ---- members

-- what each item gives, one after another
abbrev pub gather : {X Y : Type 0} → (X → List Y) → List X → List Y
gather f [] = []
gather f (x ∷ xs) = f x ++ gather f xs

pub gathered : {X Y : Type 0} (f : X → List Y) (xs : List X) (x : X) (y : Y) → Contains xs x → Contains (f x) y → Contains (gather f xs) y
gathered f [] x y there at = absurd (contains_none x there)
gathered f (first ∷ xs) x y there at = elim (contains_cases first x xs there) [
  | inl same ↦ Contains-append_left (f first) (gather f xs) y (subst (λ z. Contains (f z) y) (sym same) at)
  | inr later ↦ Contains-append_right (f first) (gather f xs) y (gathered f xs x y later at)
]

-- the numbers below this one
abbrev pub numbers_below : ℕ → List ℕ
numbers_below zero = []
numbers_below (suc n) = numbers_below n ++ n ∷ []

pub number_below : (n k : ℕ) → k < n → Contains (numbers_below n) k
number_below zero k less = absurd (omega (arith, less))
number_below (suc n) k less = elim (below_or_same k n less) [
  | inl before ↦ Contains-append_left (numbers_below n) (n ∷ []) k (number_below n k before)
  | inr same ↦ subst (λ (m : ℕ). Contains (numbers_below n ++ n ∷ []) m) (sym same) (Contains-push (numbers_below n) n)
]
  where
    below_or_same : (k n : ℕ) → k < suc n → (k < n) ⊎ (k ≡ n)
    below_or_same k n less = elim (cases_lt k n) [
      | inl before ↦ inl before
      | inr not ↦ inr (omega (arith, less, not))
    ]

-- those of which it is so
pub record Sifted {X : Type 0} (P : X → Type 0) (xs : List X) : Type 0 where
  pub list : List X
  pub are : (x : X) → Contains list x ↔ (Contains xs x × P x)

pub sift_in : {X : Type 0} (P : X → Type 0) (xs : List X) → ((x : X) → Contains xs x → IsOrNot (P x)) → Sifted P xs
sift_in P [] decide = record { list = []; are = λ x. (λ there. absurd (contains_none x there), λ both. both.0) }
sift_in {X} P (first ∷ xs) decide = by_decision (decide first (contains_head first xs)) (sift_in P xs (λ x there. decide x (contains_later first x xs there)))
  where
    by_decision : IsOrNot (P first) → Sifted P xs → Sifted P (first ∷ xs)
    by_decision (inl is) rest = record {
      list = first ∷ rest.list;
      are = λ x. (
        λ there. elim (contains_cases first x rest.list there) [
          | inl same ↦ (subst (λ (z : X). Contains (first ∷ xs) z) same (contains_head first xs), subst P same is)
          | inr later ↦ let both = (rest.are x).0 later in (contains_later first x xs both.0, both.1)
        ],
        λ both. elim (contains_cases first x xs both.0) [
          | inl same ↦ subst (λ (z : X). Contains (first ∷ rest.list) z) same (contains_head first rest.list)
          | inr later ↦ contains_later first x rest.list ((rest.are x).1 (later, both.1))
        ],
      );
    }
    by_decision (inr not) rest = record {
      list = rest.list;
      are = λ x. (
        λ there. let both = (rest.are x).0 there in (contains_later first x xs both.0, both.1),
        λ both. elim (contains_cases first x xs both.0) [
          | inl same ↦ absurd (not (subst P (sym same) both.1))
          | inr later ↦ (rest.are x).1 (later, both.1)
        ],
      );
    }

pub sift : {X : Type 0} (P : X → Type 0) → ((x : X) → IsOrNot (P x)) → (xs : List X) → Sifted P xs
sift P decide xs = sift_in P xs (λ x there. decide x)

-- whether there is one of which it is so
pub any_or_not : {X : Type 0} (P : X → Type 0) → ((x : X) → IsOrNot (P x)) → (xs : List X) → IsOrNot ((x : X) × (Contains xs x × P x))
any_or_not P decide [] = inr (λ found. contains_none found.0 found.1.0)
any_or_not P decide (first ∷ xs) = elim (decide first) [
  | inl is ↦ inl (first, (contains_head first xs, is))
  | inr not ↦ elim (any_or_not P decide xs) [
    | inl found ↦ inl (found.0, (contains_later first found.0 xs found.1.0, found.1.1))
    | inr none ↦ inr (λ found. ⊎_elim (λ same. not (subst P (sym same) found.1.1)) (λ later. none (found.0, (later, found.1.1))) (contains_cases first found.0 xs found.1.0))
  ]
]

-- ---- order

-- the same members in order, each once
pub record InOrder {X : Type 0} (before : X → X → Type 0) (xs : List X) : Type 0 where
  pub list : List X
  pub order : AllPairs before list
  pub are : (x : X) → Contains list x ↔ Contains xs x

-- those of which it is so, in order
pub record Chosen {X : Type 0} (before : X → X → Type 0) (P : X → Type 0) (xs : List X) : Type 0 where
  pub list : List X
  pub order : AllPairs before list
  pub are : (x : X) → Contains list x ↔ (Contains xs x × P x)

module _ {X : Type 0} (before : X → X → Type 0) (is : IsStrictTotalOrder before) where
  -- one more, unless it is there
  record With (x : X) (xs : List X) : Type 0 where
    list : List X
    order : AllPairs before list
    are : (y : X) → Contains list y ↔ ((x ≡ y) ⊎ Contains xs y)

  put : (x : X) (xs : List X) → AllPairs before xs → With x xs
  put x [] order = record {
    list = x ∷ [];
    order = ordered_cons before x [] (λ y c. absurd (contains_none y c)) (ordered_none before);
    are = λ y. (λ there. contains_cases x y [] there, λ which. ⊎_elim (λ same. subst (λ (z : X). Contains (x ∷ []) z) same (contains_head x [])) (λ c. absurd (contains_none y c)) which);
  }
  put x (first ∷ xs) order = by_order (is.total x first) (put x xs (ordered_tail before first xs order))
    where
      by_order : before x first ⊎ ((x ≡ first) ⊎ before first x) → With x xs → With x (first ∷ xs)
      by_order (inl less) rest = record {
        list = x ∷ first ∷ xs;
        order = ordered_cons before x (first ∷ xs)
            (λ y c. ⊎_elim (λ same. subst (before x) same less) (λ later. is.transitive x first y less (ordered_head before first xs order y later)) (contains_cases first y xs c)) order;
        are = λ y. (
          λ there. contains_cases x y (first ∷ xs) there,
          λ which. ⊎_elim (λ same. subst (λ (z : X). Contains (x ∷ first ∷ xs) z) same (contains_head x (first ∷ xs))) (λ c. contains_later x y (first ∷ xs) c) which,
        );
      }
      by_order (inr (inl same)) rest = record {
        list = first ∷ xs;
        order = order;
        are = λ y. (
          λ there. inr there,
          λ which. ⊎_elim (λ is_x. subst (λ (z : X). Contains (first ∷ xs) z) (sym same ∙ is_x) (contains_head first xs)) (λ c. c) which,
        );
      }
      by_order (inr (inr more)) rest = record {
        list = first ∷ rest.list;
        order = ordered_cons before first rest.list
            (λ y c. ⊎_elim (λ same. subst (before first) same more) (λ later. ordered_head before first xs order y later) ((rest.are y).0 c)) rest.order;
        are = λ y. (
          λ there. ⊎_elim (λ same. inr (subst (λ (z : X). Contains (first ∷ xs) z) same (contains_head first xs)))
              (λ c. ⊎_elim (λ is_x. inl is_x) (λ later. inr (contains_later first y xs later)) ((rest.are y).0 c)) (contains_cases first y rest.list there),
          λ which. ⊎_elim (λ is_x. contains_later first y rest.list ((rest.are y).1 (inl is_x)))
              (λ c. ⊎_elim (λ same. subst (λ (z : X). Contains (first ∷ rest.list) z) same (contains_head first rest.list))
              (λ later. contains_later first y rest.list ((rest.are y).1 (inr later))) (contains_cases first y xs c)) which,
        );
      }

  pub in_order : (xs : List X) → InOrder before xs
  in_order [] = record { list = []; order = ordered_none before; are = λ x. (λ c. c, λ c. c) }
  in_order (first ∷ xs) = with_first (in_order xs)
    where
      with_first : InOrder before xs → InOrder before (first ∷ xs)
      with_first rest =
          let more = put first rest.list rest.order in
          record {
            list = more.list;
            order = more.order;
            are = λ y. (
              λ there. ⊎_elim (λ same. subst (λ (z : X). Contains (first ∷ xs) z) same (contains_head first xs)) (λ c. contains_later first y xs ((rest.are y).0 c)) ((more.are y).0 there),
              λ there. ⊎_elim (λ same. (more.are y).1 (inl same)) (λ later. (more.are y).1 (inr ((rest.are y).1 later))) (contains_cases first y xs there),
            );
          }

  pub chosen : (P : X → Type 0) (xs : List X) → ((x : X) → Contains xs x → IsOrNot (P x)) → Chosen before P xs
  chosen P xs decide =
      let some = sift_in P xs decide in
      let ordered = in_order some.list in
      record {
        list = ordered.list;
        order = ordered.order;
        are = λ x. (λ there. (some.are x).0 ((ordered.are x).0 there), λ both. (ordered.are x).1 ((some.are x).1 both));
      }
