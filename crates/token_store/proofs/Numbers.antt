-- Lists of numbers in an order.
use Rattle.std.proofs.Common.{◌≡◌, ◌↔◌, ℕ, zero, suc, ◌<◌, ◌⊎◌, inl, inr, List, [], ◌∷◌, ◌++◌, length, take, drop, slice_get, slice_index_or, Contains, Some, refl, sym, ap, ◌∙◌, subst, arith, length-append}
use Rattle.std.proofs.lemmas.Bool.{cases_lt}
use Rattle.token_store.specs.Orders.{IsInOrder, IsListOf}

pub contains_first : (x : ℕ) (xs : List ℕ) → Contains (x ∷ xs) x
contains_first x xs = (0, omega arith, refl)

pub contains_behind : (x : ℕ) (xs : List ℕ) (y : ℕ) → Contains xs y → Contains (x ∷ xs) y
contains_behind x xs y has = (suc has.0, omega (arith, has.1), has.2)

pub contains_cases : (x : ℕ) (xs : List ℕ) (y : ℕ) → Contains (x ∷ xs) y → (x ≡ y) ⊎ Contains xs y
contains_cases x xs y (zero, below, is) = inl is
contains_cases x xs y (suc k, below, is) = inr (k, omega (arith, below), is)

pub contains_none : (y : ℕ) → Contains [] y → ⊥
contains_none y has = absurd (omega (arith, has.1))

-- what is in a list into which one number was put
pub contains_put : (front back : List ℕ) (x y : ℕ) → Contains (front ++ x ∷ back) y → Contains (front ++ back) y ⊎ (x ≡ y)
contains_put [] back x y has = elim (contains_cases x back y has) [ inl same ↦ inr same | inr more ↦ inl more ]
contains_put (f ∷ front) back x y has = elim (contains_cases f (front ++ x ∷ back) y has) [
  | inl same ↦ inl (subst (Contains (f ∷ front ++ back)) same (contains_first f (front ++ back)))
  | inr more ↦ elim (contains_put front back x y more) [
    | inl has ↦ inl (contains_behind f (front ++ back) y has)
    | inr is ↦ inr is
  ]
]

pub contains_also : (front back : List ℕ) (x y : ℕ) → Contains (front ++ back) y → Contains (front ++ x ∷ back) y
contains_also [] back x y has = contains_behind x back y has
contains_also (f ∷ front) back x y has = elim (contains_cases f (front ++ back) y has) [
  | inl same ↦ subst (Contains (f ∷ front ++ x ∷ back)) same (contains_first f (front ++ x ∷ back))
  | inr more ↦ contains_behind f (front ++ x ∷ back) y (contains_also front back x y more)
]

pub contains_the : (front back : List ℕ) (x : ℕ) → Contains (front ++ x ∷ back) x
contains_the [] back x = contains_first x back
contains_the (f ∷ front) back x = contains_behind f (front ++ x ∷ back) x (contains_the front back x)

-- a number put where it belongs
pub in_order_put : (before : ℕ → ℕ → Type 0) (front back : List ℕ) (x : ℕ) → IsInOrder before (front ++ back)
    → ((y : ℕ) → Contains front y → before y x) → ((y : ℕ) → Contains back y → before x y) → IsInOrder before (front ++ x ∷ back)
in_order_put before [] back x order lower upper = (upper, order)
in_order_put before (f ∷ front) back x order lower upper = (
  (λ y has. elim (contains_put front back x y has) [
    | inl has ↦ order.0 y has
    | inr is ↦ subst (before f) is (lower f (contains_first f front))
  ]),
  in_order_put before front back x order.1 (λ y has. lower y (contains_behind f front y has)) upper,
)

pub list_put : (before : ℕ → ℕ → Type 0) (is : ℕ → Type 0) (front back : List ℕ) (x : ℕ) → IsListOf before is (front ++ back)
    → ((y : ℕ) → Contains front y → before y x) → ((y : ℕ) → Contains back y → before x y)
    → IsListOf before (λ y. is y ⊎ (x ≡ y)) (front ++ x ∷ back)
list_put before is front back x list lower upper = record {
  order = in_order_put before front back x list.order lower upper;
  each = λ y. (
    (λ has. elim (contains_put front back x y has) [ inl has ↦ inl ((list.each y).0 has) | inr same ↦ inr same ]),
    (λ either. elim either [
      | inl has ↦ contains_also front back x y ((list.each y).1 has)
      | inr same ↦ subst (Contains (front ++ x ∷ back)) same (contains_the front back x)
    ]),
  );
}

-- an order that agrees on the list's numbers, and a test that agrees on all
in_order_like : (before other : ℕ → ℕ → Type 0) (list : List ℕ) → ((x y : ℕ) → Contains list x → Contains list y → before x y → other x y)
    → IsInOrder before list → IsInOrder other list
in_order_like before other [] agree order = tt
in_order_like before other (x ∷ list) agree order = (
  (λ y has. agree x y (contains_first x list) (contains_behind x list y has) (order.0 y has)),
  in_order_like before other list (λ a b one two. agree a b (contains_behind x list a one) (contains_behind x list b two)) order.1,
)

pub list_like : (before other : ℕ → ℕ → Type 0) (is are : ℕ → Type 0) (list : List ℕ) → IsListOf before is list
    → ((x y : ℕ) → is x → is y → before x y → other x y) → ((x : ℕ) → is x ↔ are x) → IsListOf other are list
list_like before other is are list of agree same = record {
  order = in_order_like before other list (λ x y one two. agree x y ((of.each x).0 one) ((of.each y).0 two)) of.order;
  each = λ x. ((λ has. (same x).0 ((of.each x).0 has)), (λ are. (of.each x).1 ((same x).1 are)));
}

-- what stands at a place that there is
pub index_default : (list : List ℕ) (place one other : ℕ) → place < length list → slice_index_or list place one ≡ slice_index_or list place other
index_default [] place one other within = absurd (omega (arith, within))
index_default (x ∷ list) zero one other within = refl
index_default (x ∷ list) (suc place) one other within = index_default list place one other (omega (arith, within))

-- of two numbers in the list the first comes first
pub in_order_at : (before : ℕ → ℕ → Type 0) (list : List ℕ) (one other : ℕ) → IsInOrder before list → one < other → other < length list
    → before (slice_index_or list one 0) (slice_index_or list other 0)
in_order_at before [] one other order less within = absurd (omega (arith, within))
in_order_at before (x ∷ list) one zero order less within = absurd (omega (arith, less))
in_order_at before (x ∷ list) zero (suc other) order less within = order.0 (slice_index_or list other 0) (other, omega (arith, within), index_default list other _ 0 (omega (arith, within)))
in_order_at before (x ∷ list) (suc one) (suc other) order less within = in_order_at before list one other order.1 (omega (arith, less)) (omega (arith, within))

-- a number of the list parts it
split_at : (list : List ℕ) (x : ℕ) → Contains list x → (front back : List ℕ) × (list ≡ front ++ x ∷ back)
split_at [] x has = absurd (contains_none x has)
split_at (first ∷ list) x (zero, within, is) = ([], list, ap (λ y. y ∷ list) is)
split_at (first ∷ list) x (suc k, within, is) =
    let rest = split_at list x (k, omega (arith, within), is) in
    (first ∷ rest.0, rest.1, ap (λ more. first ∷ more) rest.2)

-- and the others are in order without it, each on one side of it
in_order_less : (before : ℕ → ℕ → Type 0) (front back : List ℕ) (x : ℕ) → IsInOrder before (front ++ x ∷ back)
    → IsInOrder before (front ++ back) × ((y : ℕ) → Contains (front ++ back) y → before y x ⊎ before x y)
in_order_less before [] back x order = (order.1, λ y has. inr (order.0 y has))
in_order_less before (first ∷ front) back x order =
    let rest = in_order_less before front back x order.1 in (
      ((λ y has. order.0 y (contains_also front back x y has)), rest.0),
      (λ y has. elim (contains_cases first (front ++ back) y has) [
        | inl same ↦ inl (subst (λ z. before z x) same (order.0 x (contains_the front back x)))
        | inr behind ↦ rest.1 y behind
      ]),
    )

-- a list without one of its numbers
pub list_taken : (before : ℕ → ℕ → Type 0) (is : ℕ → Type 0) → ((x : ℕ) → before x x → ⊥) → (front back : List ℕ) (x : ℕ)
    → IsListOf before is (front ++ x ∷ back) → IsListOf before (λ y. is y × (x ≡ y → ⊥)) (front ++ back)
list_taken before is never front back x of =
    let less = in_order_less before front back x of.order in
    record {
      order = less.0;
      each = λ y. (
        (λ has. (
          (of.each y).0 (contains_also front back x y has),
          (λ same. elim (less.1 y has) [
            | inl one ↦ never x (subst (λ z. before z x) (sym same) one)
            | inr other ↦ never x (subst (before x) (sym same) other)
          ]),
        )),
        (λ both. elim (contains_put front back x y ((of.each y).1 both.0)) [
          | inl has ↦ has
          | inr same ↦ absurd (both.1 same)
        ]),
      );
    }

-- the last number comes behind all others
pub in_order_last : (before : ℕ → ℕ → Type 0) (front : List ℕ) (x y : ℕ) → IsInOrder before (front ++ x ∷ []) → Contains front y → before y x
in_order_last before [] x y order has = absurd (contains_none y has)
in_order_last before (first ∷ front) x y order has = elim (contains_cases first front y has) [
  | inl same ↦ subst (λ z. before z x) same (order.0 x (contains_the front [] x))
  | inr more ↦ in_order_last before front x y order.1 more
]

some_number : (one other : ℕ) → Some one ≡ Some other → one ≡ other
some_number one other same = cc

-- the number at a place parts the list
pub part_at : (list : List ℕ) (place x : ℕ) → slice_get list place ≡ Some x → list ≡ take place list ++ x ∷ drop (suc place) list
part_at [] place x is = cc
part_at (first ∷ list) zero x is = ap (λ y. y ∷ list) (some_number first x is)
part_at (first ∷ list) (suc place) x is = ap (λ more. first ∷ more) (part_at list place x is)

-- a list of the numbers below a bound has as many
pub counted : (before : ℕ → ℕ → Type 0) → ((x : ℕ) → before x x → ⊥) → (bound : ℕ) (list : List ℕ) → IsListOf before (λ x. x < bound) list → length list ≡ bound
counted before never zero [] of = refl
counted before never zero (x ∷ list) of = absurd (omega (arith, (of.each x).0 (contains_first x list)))
counted before never (suc bound) list of =
    let split = split_at list bound ((of.each bound).1 (omega arith)) in
    let front = split.0 in
    let back = split.1 in
    let less = list_taken before (λ x. x < suc bound) never front back bound (subst (IsListOf before (λ x. x < suc bound)) split.2 of) in
    let rest = counted before never bound (front ++ back)
    (list_like before before (λ x. (x < suc bound) × (bound ≡ x → ⊥)) (λ x. x < bound) (front ++ back) less (λ x y one two is. is)
    (λ x. ((λ both. below x both.0 both.1), (λ under. (omega (arith, under), λ same. absurd (omega (arith, same, under))))))) in
    omega (arith, rest, ap length split.2, length-append front (bound ∷ back), length-append front back)
  where
    below : (x : ℕ) → x < suc bound → (bound ≡ x → ⊥) → x < bound
    below x under not = elim (cases_lt x bound) [ inl less ↦ less | inr over ↦ absurd (not (omega (arith, over, under))) ]

-- two lists of the same numbers in order are equal
order_same : (before : ℕ → ℕ → Type 0) → ((x : ℕ) → before x x → ⊥) → ((x y z : ℕ) → before x y → before y z → before x z) → (one other : List ℕ)
    → IsInOrder before one → IsInOrder before other → ((z : ℕ) → Contains one z → Contains other z) → ((z : ℕ) → Contains other z → Contains one z) → one ≡ other
order_same before never joined [] [] first second to from = refl
order_same before never joined [] (y ∷ other) first second to from = absurd (contains_none y (from y (contains_first y other)))
order_same before never joined (x ∷ one) [] first second to from = absurd (contains_none x (to x (contains_first x one)))
order_same before never joined (x ∷ one) (y ∷ other) first second to from =
    let same : x ≡ y = elim (contains_cases y other x (to x (contains_first x one))) [
      | inl is ↦ sym is
      | inr behind ↦ elim (contains_cases x one y (from y (contains_first y other))) [
        | inl is ↦ is
        | inr after ↦ absurd (never x (joined x y x (first.0 y after) (second.0 x behind)))
      ]
    ] in
    let rest = order_same before never joined one other first.1 second.1
    (λ z has. elim (contains_cases y other z (to z (contains_behind x one z has))) [
      | inl is ↦ absurd (never x (subst (before x) (sym (same ∙ is)) (first.0 z has)))
      | inr behind ↦ behind
    ])
    (λ z has. elim (contains_cases x one z (from z (contains_behind y other z has))) [
      | inl is ↦ absurd (never y (subst (before y) (sym (sym same ∙ is)) (second.0 z has)))
      | inr behind ↦ behind
    ]) in
    λ i. same i ∷ rest i

pub list_one : (before : ℕ → ℕ → Type 0) (is : ℕ → Type 0) → ((x : ℕ) → before x x → ⊥) → ((x y z : ℕ) → before x y → before y z → before x z) → (one other : List ℕ)
    → IsListOf before is one → IsListOf before is other → one ≡ other
list_one before is never joined one other first second = order_same before never joined one other first.order second.order
    (λ z has. (second.each z).1 ((first.each z).0 has)) (λ z has. (first.each z).1 ((second.each z).0 has))
