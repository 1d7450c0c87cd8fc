-- What stands at a place of a list.
use Rattle.std.proofs.Common.{◌≡◌, ℕ, ◌<◌, ◌≤◌, List, [], ◌∷◌, length, get_or, Some, None, slice_get, zero, suc, refl, sym, ◌∙◌, subst, All, arith}
use Rattle.std.proofs.lemmas.List.Elements.{All-get_or}

pub item_within : {X : Type 0} (xs : List X) (k : ℕ) (x : X) → slice_get xs k ≡ Some x → k < length xs
item_within [] k x at = cc
item_within (y ∷ xs) zero x at = omega arith
item_within (y ∷ xs) (suc k) x at = omega (arith, item_within xs k x at)

pub no_item : {X : Type 0} (xs : List X) (k : ℕ) → length xs ≤ k → slice_get xs k ≡ None
no_item [] k past = refl
no_item (y ∷ xs) zero past = absurd (omega (arith, past))
no_item (y ∷ xs) (suc k) past = no_item xs k (omega (arith, past))

pub item_at : {X : Type 0} (xs : List X) (k : ℕ) (d : X) → k < length xs → slice_get xs k ≡ Some (get_or xs k d)
item_at [] k d within = absurd (omega (arith, within))
item_at (y ∷ xs) zero d within = refl
item_at (y ∷ xs) (suc k) d within = item_at xs k d (omega (arith, within))

pub item_is : {X : Type 0} (xs : List X) (k : ℕ) (d x : X) → slice_get xs k ≡ Some x → get_or xs k d ≡ x
item_is xs k d x at =
    let here : Some (get_or xs k d) ≡ Some x = sym (item_at xs k d (item_within xs k x at)) ∙ at in
    cc

-- what holds of all items holds of the one at this place
pub item_all : {X : Type 0} (P : X → Type 0) (xs : List X) (k : ℕ) (x : X) → All P xs → slice_get xs k ≡ Some x → P x
item_all P xs k x all at = subst P (item_is xs k x x at) (All-get_or P xs k x (item_within xs k x at) all)
