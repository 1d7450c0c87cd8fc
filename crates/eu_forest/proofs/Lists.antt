-- Lists by their places.
use Rattle.std.proofs.Common.{◌≡◌, ℕ, zero, suc, ◌+◌, ◌<◌, ◌≤◌, List, [], ◌∷◌, ◌++◌, length, take, drop, reverse, slice_set, slice_get, slice_index_or, get_or, Some, ◌⊎◌, inl, inr, refl, sym, ap, ◌∙◌, All, arith}
use Rattle.std.proofs.lemmas.List.{reverse-append}
use Rattle.std.proofs.lemmas.Option.{slice_get-get_or}

pub some_is : {X : Type 0} (one other : X) → Some one ≡ Some other → one ≡ other
some_is one other same = cc

-- after writing at a place
pub get-set_same : {X : Type 0} (list : List X) (place : ℕ) (x : X) → place < length list → slice_get (slice_set list place x) place ≡ Some x
get-set_same [] place x there = absurd (omega arith)
get-set_same (first ∷ list) zero x there = refl
get-set_same (first ∷ list) (suc place) x there = get-set_same list place x (omega arith)

pub get-set_other : {X : Type 0} (list : List X) (place other : ℕ) (x : X) → (other ≡ place → ⊥) → slice_get (slice_set list place x) other ≡ slice_get list other
get-set_other [] place other x differ = refl
get-set_other (first ∷ list) zero zero x differ = absurd (differ refl)
get-set_other (first ∷ list) zero (suc other) x differ = refl
get-set_other (first ∷ list) (suc place) zero x differ = refl
get-set_other (first ∷ list) (suc place) (suc other) x differ = get-set_other list place other x (λ e. differ (ap suc e))

-- a place of two lists joined
pub get-append_left : {X : Type 0} (list more : List X) (place : ℕ) (x : X) → slice_get list place ≡ Some x → slice_get (list ++ more) place ≡ Some x
get-append_left [] more place x is = cc
get-append_left (first ∷ list) more zero x is = is
get-append_left (first ∷ list) more (suc place) x is = get-append_left list more place x is

pub get-append_last : {X : Type 0} (list : List X) (last : X) → slice_get (list ++ last ∷ []) (length list) ≡ Some last
get-append_last [] last = refl
get-append_last (first ∷ list) last = get-append_last list last

-- what stands in a list with one more item is in the list, or is that item, at the end
pub get-append_cases : {X : Type 0} (list : List X) (last : X) (place : ℕ) (x : X) → slice_get (list ++ last ∷ []) place ≡ Some x
    → (slice_get list place ≡ Some x) ⊎ ((place ≡ length list) × (x ≡ last))
get-append_cases [] last zero x is = inr (refl, sym (some_is last x is))
get-append_cases [] last (suc place) x is = cc
get-append_cases (first ∷ list) last zero x is = inl is
get-append_cases (first ∷ list) last (suc place) x is =
    elim (get-append_cases list last place x is) [ inl h ↦ inl h | inr h ↦ inr (ap suc h.0, h.1) ]

-- places of the front and the rest of a list
pub get-take : {X : Type 0} (n : ℕ) (list : List X) (place : ℕ) (x : X) → slice_get (take n list) place ≡ Some x → slice_get list place ≡ Some x
get-take zero list place x is = cc
get-take (suc n) [] place x is = is
get-take (suc n) (first ∷ list) zero x is = is
get-take (suc n) (first ∷ list) (suc place) x is = get-take n list place x is

pub take-get : {X : Type 0} (n : ℕ) (list : List X) (place : ℕ) (x : X) → place < n → slice_get list place ≡ Some x → slice_get (take n list) place ≡ Some x
take-get zero list place x below is = absurd (omega arith)
take-get (suc n) [] place x below is = is
take-get (suc n) (first ∷ list) zero x below is = is
take-get (suc n) (first ∷ list) (suc place) x below is = take-get n list place x (omega arith) is

pub get-take_below : {X : Type 0} (n : ℕ) (list : List X) (place : ℕ) (x : X) → slice_get (take n list) place ≡ Some x → place < n
get-take_below zero list place x is = cc
get-take_below (suc n) [] place x is = cc
get-take_below (suc n) (first ∷ list) zero x is = omega arith
get-take_below (suc n) (first ∷ list) (suc place) x is = let h = get-take_below n list place x is in omega arith

pub get-drop : {X : Type 0} (n : ℕ) (list : List X) (place : ℕ) (x : X) → slice_get (drop n list) place ≡ Some x → slice_get list (n + place) ≡ Some x
get-drop zero list place x is = let e : 0 + place ≡ place = omega arith in rw e is
get-drop (suc n) [] place x is = cc
get-drop (suc n) (first ∷ list) place x is = let e : suc n + place ≡ suc (n + place) = omega arith in rw e (get-drop n list place x is)

pub drop-get : {X : Type 0} (n : ℕ) (list : List X) (place : ℕ) (x : X) → n ≤ place → slice_get list place ≡ Some x → (k : ℕ) × (slice_get (drop n list) k ≡ Some x)
drop-get zero list place x above is = (place, is)
drop-get (suc n) [] place x above is = cc
drop-get (suc n) (first ∷ list) zero x above is = absurd (omega arith)
drop-get (suc n) (first ∷ list) (suc place) x above is = drop-get n list place x (omega arith) is

-- all at their places
pub all-get : {X : Type 0} (P : X → Type 0) (list : List X) → ((place : ℕ) (x : X) → slice_get list place ≡ Some x → P x) → All P list
all-get P list each = λ k d below. each k (slice_index_or list k d) (slice_get-get_or list k d below)

-- the reversed list with one more item in front
pub reverse-cons : {X : Type 0} (x : X) (list : List X) → reverse (x ∷ list) ≡ reverse list ++ x ∷ []
reverse-cons x list = reverse-append (x ∷ []) list

-- what is read at a place that there is
pub read_at : {X : Type 0} (list : List X) (place : ℕ) (d x : X) → place < length list → get_or list place d ≡ x → slice_get list place ≡ Some x
read_at list place d x there is = slice_get-get_or list place d there ∙ ap Some is

-- the front of lists joined
pub take_front : {X : Type 0} (front rest : List X) (n : ℕ) → n ≡ length front → take n (front ++ rest) ≡ front
take_front [] rest zero at = refl
take_front [] rest (suc n) at = absurd (omega arith)
take_front (x ∷ front) rest zero at = absurd (omega arith)
take_front (x ∷ front) rest (suc n) at = ap (λ xs. x ∷ xs) (take_front front rest n (omega arith))
