-- Two lists whose items go together.
use Rattle.std.proofs.Common.{List, [], ◌∷◌, ◌++◌}
use Rattle.std.specs.List.{AllZip, flat_map}

pub zip_append : {A B : Type 0} (R : A → B → Type 0) (xs : List A) (ys : List B) (zs : List A) (ws : List B)
    → AllZip R xs ys → AllZip R zs ws → AllZip R (xs ++ zs) (ys ++ ws)
zip_append R [] [] zs ws one other = other
zip_append R [] (y ∷ ys) zs ws one other = absurd one
zip_append R (x ∷ xs) [] zs ws one other = absurd one
zip_append R (x ∷ xs) (y ∷ ys) zs ws one other = (one.0, zip_append R xs ys zs ws one.1 other)

pub zip_flat : {X A B : Type 0} (R : A → B → Type 0) (f : X → List A) (g : X → List B) (xs : List X)
    → ((x : X) → AllZip R (f x) (g x)) → AllZip R (flat_map f xs) (flat_map g xs)
zip_flat R f g [] each = tt
zip_flat R f g (x ∷ xs) each = zip_append R (f x) (g x) (flat_map f xs) (flat_map g xs) (each x) (zip_flat R f g xs each)
