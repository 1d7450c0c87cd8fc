-- Numbers that follow one another.
use Rattle.std.proofs.Common.{◌≡◌, ℕ, zero, suc, ◌+◌, ◌<◌, List, [], ◌∷◌, ◌++◌, length, get_or, refl, ◌∙◌, ap, append-nil, arith}
use Rattle.model_rules.specs.Numbered.{AreOnce}

-- so many numbers from this one on
abbrev pub run : ℕ → ℕ → List ℕ
run from zero = []
run from (suc count) = from ∷ run (from + 1) count

pub run_join : (from one other : ℕ) → run from one ++ run (from + one) other ≡ run from (one + other)
run_join from zero other =
    let front : from + 0 ≡ from = omega arith in
    let back : other ≡ 0 + other = omega arith in
    ap (λ (n : ℕ). run n other) front ∙ ap (λ (n : ℕ). run from n) back
run_join from (suc one) other =
    let next : ℕ = from + 1 in
    let place : from + suc one ≡ from + 1 + one = omega arith in
    let whole : suc (one + other) ≡ suc one + other = omega arith in
    ap (λ (n : ℕ). from ∷ (run next one ++ run n other)) place
    ∙ (ap (λ (list : List ℕ). from ∷ list) (run_join (from + 1) one other) ∙ ap (λ (n : ℕ). run from n) whole)

-- a run in two parts, and nothing behind it
pub run_both : (front back : List ℕ) (from middle one other : ℕ) → front ≡ run from one → middle ≡ from + one → back ≡ run middle other
    → front ++ (back ++ []) ≡ run from (one + other)
run_both front back from middle one other first at second =
    ap (λ (list : List ℕ). list ++ (back ++ [])) first
    ∙ (ap (λ (list : List ℕ). run from one ++ list) (append-nil back ∙ second)
    ∙ (ap (λ (n : ℕ). run from one ++ run n other) at ∙ run_join from one other))

pub length_run : (from count : ℕ) → length (run from count) ≡ count
length_run from zero = refl
length_run from (suc count) = ap suc (length_run (from + 1) count)

pub run_at : (from count k d : ℕ) → k < count → get_or (run from count) k d ≡ from + k
run_at from zero k d below = absurd (omega (arith, below))
run_at from (suc count) zero d below = let same : from ≡ from + 0 = omega arith in same
run_at from (suc count) (suc k) d below =
    let rest : get_or (run (from + 1) count) k d ≡ from + 1 + k = run_at (from + 1) count k d (omega (arith, below)) in
    let same : from + 1 + k ≡ from + suc k = omega arith in
    rest ∙ same

-- in a run from 0 on each number below its end stands once
pub run_once : (count : ℕ) → AreOnce count (run 0 count)
run_once count = record {
  within = λ k d below.
      (let size = length_run 0 count in
      let inside : k < count = omega (arith, below, size) in
      let at = run_at 0 count k d inside in
      omega (arith, at, inside));
  distinct = λ i j d less below same.
      (let size = length_run 0 count in
      let inside : j < count = omega (arith, below, size) in
      let first = run_at 0 count i d (omega (arith, less, inside)) in
      let second = run_at 0 count j d inside in
      omega (arith, less, first, second, same));
  whole = λ number below.
      (let size = length_run 0 count in
      let at = run_at 0 count number number below in
      (number, omega (arith, below, size), omega (arith, at)));
}
