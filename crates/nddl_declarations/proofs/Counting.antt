-- Numbers that are counted up.
use Rattle.std.proofs.Common.{◌≡◌, ℕ, ◌+◌, List, [], ◌∷◌, ◌++◌, ℤ, pos, map, sym, ◌∙◌, arith}
use Rattle.std.specs.List.{range_with_len}
use Rattle.std.proofs.lemmas.List.FromFn.{map-range_with_len_more}

-- one number more
pub counted_more : (old new : List ℤ) (x : ℤ) (place : ℕ) → old ≡ map pos (range_with_len 0 place) → new ≡ old ++ x ∷ [] → x ≡ pos place
    → new ≡ map pos (range_with_len 0 (place + 1))
counted_more old new x place so_far is same =
    is ∙ (λ i. so_far i ++ same i ∷ []) ∙ sym (map-range_with_len_more pos 0 place place (omega arith))
