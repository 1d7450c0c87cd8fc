-- What is found along a list is found along any other on which the same things pass the test, where those change nothing that
-- don't pass.
use Rattle.std.proofs.Common.{◌≡◌, Bool, true, false, cond, List, [], ◌∷◌, refl, sym, ◌∙◌, ap}
use Rattle.std.specs.List.{filter}
use Rattle.nddl_hierarchy.specs.Shorter.{KeepTheSame}

module _ {X Y : Type 0} (test : X → Bool) (found : List X → Y) (step : X → Y → Y)
    (on : (x : X) (more : List X) → found (x ∷ more) ≡ step x (found more))
    (idle : (x : X) → test x ≡ false → (rest : Y) → step x rest ≡ rest) where
  found_keeping : (xs : List X) → found xs ≡ found (filter test xs)
  found_keeping [] = refl
  found_keeping (x ∷ xs) = on x xs ∙ by (test x) refl (found_keeping xs)
    where
      by : (passes : Bool) → test x ≡ passes → found xs ≡ found (filter test xs)
          → step x (found xs) ≡ found (cond passes (x ∷ filter test xs) (filter test xs))
      by true is rest = ap (step x) rest ∙ sym (on x (filter test xs))
      by false is rest = idle x is (found xs) ∙ rest

  pub found_kept : (one other : List X) → KeepTheSame test one other → found one ≡ found other
  found_kept one other same = found_keeping one ∙ (ap found same ∙ sym (found_keeping other))
