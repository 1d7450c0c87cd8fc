-- Members of a list by their places.
use Rattle.std.proofs.Common.{◌≡◌, ℕ, suc, zero, List, [], ◌∷◌, length, Some, refl, sym, subst, arith}
use Rattle.std.specs.Prelude.{All, slice_get}
use Rattle.std.proofs.lemmas.Option.{get_or_from_slice_get}
use Rattle.eu_name.proofs.Members.{get_within}

-- what holds at each place holds of all
pub all_from_get : {X : Type 0} (P : X → Type 0) (xs : List X) → ((k : ℕ) (x : X) → slice_get xs k ≡ Some x → P x) → All P xs
all_from_get P xs at k d h =
    let found = get_within xs k h in
    subst P (sym (get_or_from_slice_get xs k found.0 d found.1)) (at k found.0 found.1)

-- lists with the same item at each place are equal
pub same_from_get : {X : Type 0} (xs ys : List X) → length xs ≡ length ys → ((k : ℕ) (x : X) → slice_get xs k ≡ Some x → slice_get ys k ≡ Some x) → xs ≡ ys
same_from_get [] [] l at = refl
same_from_get [] (y ∷ ys) l at = absurd (omega arith)
same_from_get (x ∷ xs) [] l at = absurd (omega arith)
same_from_get (x ∷ xs) (y ∷ ys) l at =
    let head : Some y ≡ Some x = at zero x refl in
    let same : x ≡ y = cc in
    let rest = same_from_get xs ys (omega arith) (λ k z e. at (suc k) z e) in
    (λ i. same i ∷ rest i)
