-- Lists that are the same item by item.
use Rattle.std.proofs.Common.{◌≡◌, List, [], ◌∷◌, length, refl, arith}
use Rattle.nddl_ast.specs.Same.{AllSame}

pub same_len : {A : Type 0} (Same : A → A → Type 0) (xs ys : List A) → AllSame Same xs ys → length xs ≡ length ys
same_len Same [] [] same = refl
same_len Same [] (y ∷ ys) same = absurd same
same_len Same (x ∷ xs) [] same = absurd same
same_len Same (x ∷ xs) (y ∷ ys) same = omega (arith, same_len Same xs ys same.1)
