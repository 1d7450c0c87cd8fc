-- Members of a list by their places, and of one to which an item is put.
use Rattle.std.proofs.Common.{◌≡◌, ℕ, suc, zero, ◌<◌, List, [], ◌∷◌, ◌++◌, length, Some, get_or, refl, sym, ap, ◌∙◌, arith}
use Rattle.std.specs.Prelude.{Contains, All, slice_get}
use Rattle.std.proofs.lemmas.Option.{get_or_from_slice_get}
use Rattle.eu_name.proofs.Members.{contains_from_get, get_within}

-- what holds of each member holds of all
pub all_from_contains : {X : Type 0} (P : X → Type 0) (xs : List X) → ((x : X) → Contains xs x → P x) → All P xs
all_from_contains P xs each k d h = each (get_or xs k d) (contains_from_get xs k _ (let found = get_within xs k h in found.1 ∙ ap Some (sym (get_or_from_slice_get xs k found.0 d found.1))))

-- an item put at the end moves no other
pub get_before_push : {X : Type 0} (xs : List X) (x : X) (k : ℕ) → k < length xs → slice_get (xs ++ x ∷ []) k ≡ slice_get xs k
get_before_push [] x k h = absurd (omega arith)
get_before_push (y ∷ ys) x zero h = refl
get_before_push (y ∷ ys) x (suc k) h = get_before_push ys x k (omega arith)

pub get_push : {X : Type 0} (xs : List X) (x : X) → slice_get (xs ++ x ∷ []) (length xs) ≡ Some x
get_push [] x = refl
get_push (y ∷ ys) x = get_push ys x
