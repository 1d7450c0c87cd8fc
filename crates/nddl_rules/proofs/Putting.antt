-- One rule more in the list of a predicate.
use Rattle.std.proofs.Common.{◌≡◌, ℕ, zero, suc, ◌<◌, ◌≤◌, List, [], ◌∷◌, ◌++◌, length, refl, sym, ◌∙◌, ap, arith}
use Rattle.std.specs.Prelude.{Option, Some, None, slice_get, slice_set, slice_index_or}
use Rattle.std.specs.Option.{option_map_or}

-- what is read within a list
read_within : {X : Type 0} (some : List (List X)) (number : ℕ) (other : List X) → number < length some
    → slice_index_or some number other ≡ option_map_or (λ l. l) (slice_get some number) []
read_within [] number other within = absurd (omega arith)
read_within (x ∷ some) zero other within = refl
read_within (x ∷ some) (suc number) other within = read_within some number other (omega arith)

pub put_here : {X : Type 0} (old new : List (List X)) (number : ℕ) (list more other : List X) (x : X) → number < length old
    → list ≡ slice_index_or old number other → more ≡ list ++ x ∷ [] → new ≡ slice_set old number more
    → new ≡ slice_set old number (option_map_or (λ l. l) (slice_get old number) [] ++ x ∷ [])
put_here old new number list more other x within read put set =
    set ∙ ap (slice_set old number) (put ∙ ap (λ l. l ++ x ∷ []) (read ∙ read_within old number other within))

pub put_past : {X : Type 0} (old : List X) (number : ℕ) (x : X) → length old ≤ number → old ≡ slice_set old number x
put_past [] number x past = refl
put_past (y ∷ old) zero x past = absurd (omega arith)
put_past (y ∷ old) (suc number) x past = ap (λ rest. y ∷ rest) (put_past old number x (omega arith))
