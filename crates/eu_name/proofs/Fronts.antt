-- Fronts of a text whose bytes all pass a test.
use Rattle.std.proofs.Common.{◌≡◌, ℕ, Bool, true, false, List, [], ◌∷◌, ◌++◌, take, drop, refl, sym, ◌∙◌, ap, inl, inr}
use Rattle.std.specs.Prelude.{⊤}
use Rattle.std.proofs.Math.Numerals.{one-add}
use Rattle.std.specs.List.{AllByRecursion, prefix_len}
use Rattle.std.proofs.lemmas.Bool.{cases_Bool, both_ways}
use Rattle.std.proofs.lemmas.List.{take-append-drop}

-- each byte passes the test
abbrev pub Passes : (ℕ → Bool) → List ℕ → Type 0
Passes p bytes = AllByRecursion (λ byte. p byte ≡ true) bytes

-- the first byte, if there is one, fails the test
abbrev pub Stops : (ℕ → Bool) → List ℕ → Type 0
Stops p [] = ⊤
Stops p (byte ∷ bytes) = p byte ≡ false

-- a passing front that stops and another one with what follows are the same
pub same_fronts : (p : ℕ → Bool) (one other rest left : List ℕ) → Passes p one → Passes p other → Stops p rest → Stops p left → one ++ rest ≡ other ++ left → (one ≡ other) × (rest ≡ left)
same_fronts p [] [] rest left passes passes' stops stops' whole = (refl, whole)
same_fronts p [] (y ∷ other) [] left passes passes' stops stops' whole = cc
same_fronts p [] (y ∷ other) (x ∷ rest) left passes passes' stops stops' whole =
    let first : x ≡ y = cc in
    absurd (both_ways (p y) (sym (ap p first) ∙ stops) passes'.0)
same_fronts p (x ∷ one) [] rest [] passes passes' stops stops' whole = cc
same_fronts p (x ∷ one) [] rest (y ∷ left) passes passes' stops stops' whole =
    let first : x ≡ y = cc in
    absurd (both_ways (p x) (ap p first ∙ stops') passes.0)
same_fronts p (x ∷ one) (y ∷ other) rest left passes passes' stops stops' whole =
    let first : x ≡ y = cc in
    let tails : one ++ rest ≡ other ++ left = cc in
    let inner = same_fronts p one other rest left passes.1 passes'.1 stops stops' tails in
    let fronts : one ≡ other = inner.0 in
    (cc, inner.1)

-- the longest front that passes
pub prefix_passes : (p : ℕ → Bool) (bytes : List ℕ) → Passes p (take (prefix_len p bytes) bytes)
prefix_passes p [] = tt
prefix_passes p (byte ∷ bytes) = elim (cases_Bool (p byte)) [
  | inl passes ↦ rw (passes, one-add) (passes, prefix_passes p bytes)
  | inr fails ↦ rw fails tt
]

pub prefix_stops : (p : ℕ → Bool) (bytes : List ℕ) → Stops p (drop (prefix_len p bytes) bytes)
prefix_stops p [] = tt
prefix_stops p (byte ∷ bytes) = elim (cases_Bool (p byte)) [
  | inl passes ↦ rw (passes, one-add) (prefix_stops p bytes)
  | inr fails ↦ rw fails fails
]

-- a passing front that stops is the longest one
pub is_prefix : (p : ℕ → Bool) (bytes front rest : List ℕ) → Passes p front → Stops p rest → bytes ≡ front ++ rest → (take (prefix_len p bytes) bytes ≡ front) × (drop (prefix_len p bytes) bytes ≡ rest)
is_prefix p bytes front rest passes stops whole =
    same_fronts p (take (prefix_len p bytes) bytes) front (drop (prefix_len p bytes) bytes) rest (prefix_passes p bytes) passes (prefix_stops p bytes) stops (take-append-drop (prefix_len p bytes) bytes ∙ whole)
