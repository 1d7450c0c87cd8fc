-- Lists in order: nothing stands twice, and two with the same members are one.
use Rattle.std.proofs.Common.{◌≡◌, ℕ, suc, zero, ◌<◌, List, [], ◌∷◌, length, get_or, ◌⊎◌, ⊎_elim, inl, inr, refl, sym, ◌∙◌, subst, arith}
use Rattle.std.specs.Prelude.{Contains, AllPairs}
use Rattle.std.proofs.lemmas.List.Elements.{Contains-get_or}

-- ---- membership, by the first item

pub contains_head : {X : Type 0} (x : X) (xs : List X) → Contains (x ∷ xs) x
contains_head x xs = (0, omega arith, refl)

pub contains_later : {X : Type 0} (y x : X) (xs : List X) → Contains xs x → Contains (y ∷ xs) x
contains_later y x xs c = (suc c.0, omega (arith, c.1), c.2)

pub contains_cases : {X : Type 0} (y x : X) (xs : List X) → Contains (y ∷ xs) x → (y ≡ x) ⊎ Contains xs x
contains_cases {X} y x xs c = at c.0 c.1 c.2
  where
    at : (k : ℕ) → k < length (y ∷ xs) → get_or (y ∷ xs) k x ≡ x → (y ≡ x) ⊎ Contains xs x
    at zero within e = inl e
    at (suc k) within e = inr (k, omega arith, e)

pub contains_none : {X : Type 0} (x : X) → Contains [] x → ⊥
contains_none x c = omega (arith, c.1)

-- ---- order

module _ {X : Type 0} (before : X → X → Type 0) where
  pub ordered_tail : (x : X) (xs : List X) → AllPairs before (x ∷ xs) → AllPairs before xs
  ordered_tail x xs p = λ i j d less within. p (suc i) (suc j) d (omega arith) (omega arith)

  pub ordered_head : (x : X) (xs : List X) → AllPairs before (x ∷ xs) → (later : X) → Contains xs later → before x later
  ordered_head x xs p later c = subst (before x) c.2 (p 0 (suc c.0) later (omega arith) (omega (arith, c.1)))

module _ {X : Type 0} (before : X → X → Type 0) (irreflexive : (x : X) → before x x → ⊥) (transitive : (x y z : X) → before x y → before y z → before x z) where
  -- what lies in both lists lies in both behind the first, which they share
  behind : (x y v : X) (xs ys : List X) → AllPairs before (x ∷ xs) → x ≡ y → Contains (y ∷ ys) v → Contains xs v → Contains ys v
  behind x y v xs ys p same there c =
      ⊎_elim
      (λ first. absurd (irreflexive x (subst (before x) (sym (same ∙ first)) (ordered_head before x xs p v c))))
      (λ later. later)
      (contains_cases y v ys there)

  first_same : (x y : X) (xs ys : List X) → AllPairs before (x ∷ xs) → AllPairs before (y ∷ ys) → Contains (y ∷ ys) x → Contains (x ∷ xs) y → x ≡ y
  first_same x y xs ys p q x_in y_in =
      ⊎_elim
      (λ same. sym same)
      (λ x_later. ⊎_elim
      (λ same. same)
      (λ y_later. absurd (irreflexive x (transitive x y x (ordered_head before x xs p y y_later) (ordered_head before y ys q x x_later))))
      (contains_cases x y xs y_in))
      (contains_cases y x ys x_in)

  -- lists in order with the same members are one
  pub same_members : (xs ys : List X) → AllPairs before xs → AllPairs before ys → ((v : X) → Contains xs v → Contains ys v) → ((v : X) → Contains ys v → Contains xs v) → xs ≡ ys
  same_members [] [] p q into back = refl
  same_members [] (y ∷ ys) p q into back = absurd (contains_none y (back y (contains_head y ys)))
  same_members (x ∷ xs) [] p q into back = absurd (contains_none x (into x (contains_head x xs)))
  same_members (x ∷ xs) (y ∷ ys) p q into back =
      let first = first_same x y xs ys p q (into x (contains_head x xs)) (back y (contains_head y ys)) in
      let rest = same_members xs ys (ordered_tail before x xs p) (ordered_tail before y ys q)
      (λ v c. behind x y v xs ys p first (into v (contains_later x v xs c)) c)
      (λ v c. behind y x v ys xs q (sym first) (back v (contains_later y v ys c)) c) in
      (λ i. first i ∷ rest i)

-- ---- putting lists in order together

pub ordered_none : {X : Type 0} (before : X → X → Type 0) → AllPairs before []
ordered_none before = λ i j d less within. absurd (omega arith)

pub ordered_cons : {X : Type 0} (before : X → X → Type 0) (x : X) (xs : List X) → ((y : X) → Contains xs y → before x y) → AllPairs before xs → AllPairs before (x ∷ xs)
ordered_cons before x xs first rest i zero d less within = absurd (omega arith)
ordered_cons before x xs first rest zero (suc j) d less within = first (get_or xs j d) (Contains-get_or xs j d (omega arith))
ordered_cons before x xs first rest (suc i) (suc j) d less within = rest i j d (omega arith) (omega arith)

pub ordered_one : {X : Type 0} (before : X → X → Type 0) (x : X) → AllPairs before (x ∷ [])
ordered_one before x = ordered_cons before x [] (λ y c. absurd (contains_none y c)) (ordered_none before)

-- it is enough that the first comes before the second
pub ordered_link : {X : Type 0} (before : X → X → Type 0) → ((x y z : X) → before x y → before y z → before x z)
    → (x y : X) (ys : List X) → before x y → AllPairs before (y ∷ ys) → AllPairs before (x ∷ y ∷ ys)
ordered_link before transitive x y ys first rest =
    ordered_cons before x (y ∷ ys) (λ z c. elim (contains_cases y z ys c) [
      | inl same ↦ subst (before x) same first
      | inr later ↦ transitive x y z first (ordered_head before y ys rest z later)
    ]) rest

-- where things are in the order of their keys, there is one of a key at most
module _ {X K : Type 0} (key : X → K) (before : K → K → Type 0) (irreflexive : (k : K) → before k k → ⊥) where
  abbrev pub by_key : X → X → Type 0
  by_key one later = before (key one) (key later)

  pub one_of_key : (xs : List X) → AllPairs by_key xs → (v w : X) → Contains xs v → Contains xs w → key v ≡ key w → v ≡ w
  one_of_key [] p v w in_v in_w same = absurd (contains_none v in_v)
  one_of_key (x ∷ xs) p v w in_v in_w same =
      ⊎_elim
      (λ v_first. ⊎_elim
      (λ w_first. sym v_first ∙ w_first)
      (λ w_later. absurd (irreflexive (key v) (subst (λ k. before (key v) k) (sym same) (subst (λ z. before (key z) (key w)) v_first (ordered_head by_key x xs p w w_later)))))
      (contains_cases x w xs in_w))
      (λ v_later. ⊎_elim
      (λ w_first. absurd (irreflexive (key w) (subst (λ k. before (key w) k) same (subst (λ z. before (key z) (key v)) w_first (ordered_head by_key x xs p v v_later)))))
      (λ w_later. one_of_key xs (ordered_tail by_key x xs p) v w v_later w_later same)
      (contains_cases x w xs in_w))
      (contains_cases x v xs in_v)
