-- Fronts of a text whose bytes all pass a test, and other fronts.
use Rattle.std.proofs.Common.{◌≡◌, ℕ, suc, ◌≤◌, Bool, true, false, List, [], ◌∷◌, ◌++◌, length, take, refl, inl, inr, arith}
use Rattle.std.proofs.Math.Numerals.{one-add}
use Rattle.std.specs.List.{prefix_len}
use Rattle.std.proofs.lemmas.Bool.{cases_Bool}
use Rattle.nddl_lexer.specs.Bytes.{AllPassing}

-- two fronts of one length are equal, and so is what follows them
pub same_fronts : {A : Type 0} (one other rest left : List A) → one ++ rest ≡ other ++ left → length one ≡ length other → (one ≡ other) × (rest ≡ left)
same_fronts [] [] rest left same lengths = (refl, same)
same_fronts [] (y ∷ ys) rest left same lengths = absurd (omega arith)
same_fronts (x ∷ xs) [] rest left same lengths = absurd (omega arith)
same_fronts (x ∷ xs) (y ∷ ys) rest left same lengths =
    let first : x ≡ y = cc in
    let tails : xs ++ rest ≡ ys ++ left = cc in
    let inner = same_fronts xs ys rest left tails (omega arith) in
    let inner_same : xs ≡ ys = inner.0 in
    (cc, inner.1)

-- the longest front that passes
pub prefix_passes : (p : ℕ → Bool) (xs : List ℕ) → AllPassing p (take (prefix_len p xs) xs)
prefix_passes p [] = tt
prefix_passes p (x ∷ xs) = elim (cases_Bool (p x)) [
  | inl passes ↦ rw (passes, one-add) (passes, prefix_passes p xs)
  | inr fails ↦ rw fails tt
]

-- a front that passes lies within the longest one
pub passing_within : (p : ℕ → Bool) (bytes left : List ℕ) → AllPassing p bytes → length bytes ≤ prefix_len p (bytes ++ left)
passing_within p [] left passes = omega arith
passing_within p (byte ∷ bytes) left passes = rw passes.0 (omega (arith, passing_within p bytes left passes.1))

-- and is that one where the next byte fails
pub passing_is : (p : ℕ → Bool) (bytes : List ℕ) (stop : ℕ) (left : List ℕ) → AllPassing p bytes → p stop ≡ false → prefix_len p (bytes ++ stop ∷ left) ≡ length bytes
passing_is p [] stop left passes stops = rw stops refl
passing_is p (byte ∷ bytes) stop left passes stops = rw passes.0 (omega (arith, passing_is p bytes stop left passes.1 stops))

-- where the first byte passes, the front has it
pub prefix_first : (p : ℕ → Bool) (byte : ℕ) (bytes : List ℕ) → p byte ≡ true → prefix_len p (byte ∷ bytes) ≡ suc (prefix_len p bytes)
prefix_first p byte bytes passes = rw passes (omega arith)
