-- What is written of a decimal.
use Rattle.std.proofs.Common.{◌≡◌, ℕ, ℤ, pos, negsuc, true, false, sym, ap, ◌∙◌, List, [], ◌∷◌, ◌++◌, append_assoc, arith}
use Rattle.std.proofs.Math.IntN.{nat_abs}
use Rattle.std.specs.Int.Signed.{lt_z}
use Rattle.std.proofs.lemmas.Int.{ints}
use Rattle.nddl_print.specs.Words.{Decimal, size_text, decimal_text, spaced}
use Rattle.nddl_print.proofs.Spaced.{spaced_one}

pub negative_text : (value cast : ℤ) (size : ℕ) → cast ≡ value → size ≡ nat_abs cast → lt_z cast (pos 0) ≡ true → decimal_text value ≡ 45 ∷ size_text size
negative_text value (pos n) size same is less = absurd (grind (arith, ints))
negative_text value (negsuc n) size same is less = ap decimal_text (sym same) ∙ ap (λ n. 45 ∷ size_text n) (sym is)

pub plain_text : (value cast : ℤ) (size : ℕ) → cast ≡ value → size ≡ nat_abs cast → lt_z cast (pos 0) ≡ false → decimal_text value ≡ size_text size
plain_text value (pos n) size same is more = ap decimal_text (sym same) ∙ ap size_text (sym is)
plain_text value (negsuc n) size same is more = absurd (grind (arith, ints))

pub signed_written : (start one last : List ℕ) (value : ℤ) (size : ℕ) → decimal_text value ≡ 45 ∷ size_text size → one ≡ start ++ 45 ∷ []
    → last ≡ one ++ (size_text size ++ 32 ∷ []) → last ≡ start ++ spaced (Decimal value ∷ [])
signed_written start one last value size text p q =
    q ∙ (ap (λ front. front ++ (size_text size ++ 32 ∷ [])) p ∙ (append_assoc start (45 ∷ []) (size_text size ++ 32 ∷ [])
    ∙ ap (λ back. start ++ back) (ap (λ front. front ++ 32 ∷ []) (sym text) ∙ sym (spaced_one (Decimal value)))))

pub plain_written : (start last : List ℕ) (value : ℤ) (size : ℕ) → decimal_text value ≡ size_text size → last ≡ start ++ (size_text size ++ 32 ∷ []) → last ≡ start ++ spaced (Decimal value ∷ [])
plain_written start last value size text q = q ∙ ap (λ back. start ++ back) (ap (λ front. front ++ 32 ∷ []) (sym text) ∙ sym (spaced_one (Decimal value)))
