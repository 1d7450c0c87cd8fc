-- Lists written at one place.
use Rattle.std.proofs.Common.{◌≡◌, ◌≢◌, ℕ, zero, suc, List, [], ◌∷◌, slice_set, refl, ap}

pub set-set : {X : Type 0} (list : List X) (place : ℕ) (one other : X) → slice_set (slice_set list place one) place other ≡ slice_set list place other
set-set [] place one other = refl
set-set (x ∷ list) zero one other = refl
set-set (x ∷ list) (suc place) one other = ap (λ xs. x ∷ xs) (set-set list place one other)

pub set-swap : {X : Type 0} (list : List X) (place second : ℕ) (one other : X) → place ≢ second
    → slice_set (slice_set list place one) second other ≡ slice_set (slice_set list second other) place one
set-swap [] place second one other differ = refl
set-swap (x ∷ list) zero zero one other differ = absurd (differ refl)
set-swap (x ∷ list) zero (suc second) one other differ = refl
set-swap (x ∷ list) (suc place) zero one other differ = refl
set-swap (x ∷ list) (suc place) (suc second) one other differ = ap (λ xs. x ∷ xs) (set-swap list place second one other (λ same. differ (ap suc same)))
