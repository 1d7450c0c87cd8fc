-- Products of whole numbers, and the quotients that bound them.
use Rattle.std.proofs.Common.{◌≡◌, ℕ, zero, suc, ◌*◌, ◌/◌, ◌<◌, ◌≤◌, ℤ, pos, negsuc, neg_ℤ, ◌*ℤ◌, ◌≤ℤ◌, ◌<ℤ◌, sym, ap, ◌∙◌, subst, arith}
use Rattle.std.specs.Prelude.{◌↔◌}
use Rattle.std.specs.Int.{int_div_euclid}
use Rattle.std.proofs.Math.IntN.{pos-*ℤ-pos, negsuc-*ℤ-pos, *ℤ-negsuc, *ℤ_comm, zero-*ℤ, *ℤ-zero, neg_ℤ-neg_ℤ}
use Rattle.std.proofs.Math.Nat.{le-div_iff_mul-le, div-lt_iff_lt-mul, div-le_self, mul-le-mul_right}
use Rattle.std.proofs.lemmas.Int.{ints}
use Rattle.domain_core.specs.Domain.{IsValue}

-- ---- signs

neg_left_pos : (x : ℤ) (n : ℕ) → neg_ℤ x *ℤ pos n ≡ neg_ℤ (x *ℤ pos n)
neg_left_pos (pos zero) n = zero-*ℤ (pos n) ∙ sym (ap neg_ℤ (zero-*ℤ (pos n)))
neg_left_pos (pos (suc w)) n = negsuc-*ℤ-pos w n ∙ sym (ap neg_ℤ (pos-*ℤ-pos (suc w) n))
neg_left_pos (negsuc w) n = pos-*ℤ-pos (suc w) n ∙ sym (ap neg_ℤ (negsuc-*ℤ-pos w n) ∙ neg_ℤ-neg_ℤ (pos (suc w * n)))

pub neg_left : (x k : ℤ) → neg_ℤ x *ℤ k ≡ neg_ℤ (x *ℤ k)
neg_left x (pos n) = neg_left_pos x n
neg_left x (negsuc n) = *ℤ-negsuc (neg_ℤ x) n ∙ ap neg_ℤ (neg_left_pos x (suc n)) ∙ sym (ap neg_ℤ (*ℤ-negsuc x n))

pub neg_right : (x k : ℤ) → x *ℤ neg_ℤ k ≡ neg_ℤ (x *ℤ k)
neg_right x k = *ℤ_comm x (neg_ℤ k) ∙ neg_left k x ∙ ap neg_ℤ (*ℤ_comm k x)

-- ---- the quotient of a positive factor

pub at_most_quotient : (number factor x : ℤ) → pos 0 <ℤ factor → ((x *ℤ factor) ≤ℤ number) ↔ (x ≤ℤ int_div_euclid number factor)
at_most_quotient number (negsuc n) x positive = absurd (omega (arith, ints, positive))
at_most_quotient (pos m) (pos n) (pos w) positive =
    let some : zero < n = omega (arith, ints, positive) in
    let both = le-div_iff_mul-le {k = n} {x = w} {y = m} some in
    let is = pos-*ℤ-pos w n in (
      λ le. let h : w * n ≤ m = omega (arith, ints, le, is) in let q = both.1 h in omega (arith, ints, q),
      λ le. let h : w ≤ m / n = omega (arith, ints, le) in let q = both.0 h in omega (arith, ints, q, is),
    )
at_most_quotient (pos m) (pos n) (negsuc w) positive =
    let is = negsuc-*ℤ-pos w n in (λ le. omega (arith, ints), λ le. omega (arith, ints, is))
at_most_quotient (negsuc m) (pos n) (pos w) positive =
    let is = pos-*ℤ-pos w n in (λ le. absurd (omega (arith, ints, le, is)), λ le. absurd (omega (arith, ints, le)))
at_most_quotient (negsuc m) (pos n) (negsuc w) positive =
    let some : zero < n = omega (arith, ints, positive) in
    let both = div-lt_iff_lt-mul {k = n} {x = m} {y = suc w} some in
    let is = negsuc-*ℤ-pos w n in (
      λ le. let h : m < suc w * n = omega (arith, ints, le, is) in let q = both.1 h in omega (arith, ints, q),
      λ le. let h : m / n < suc w = omega (arith, ints, le) in let q = both.0 h in omega (arith, ints, q, is),
    )

pub quotient_value : (number factor : ℤ) → pos 0 <ℤ factor → IsValue number → IsValue (int_div_euclid number factor)
quotient_value number (negsuc n) positive value = absurd (omega (arith, ints, positive))
quotient_value (pos m) (pos n) positive value = let less = div-le_self m n in (omega (arith, ints), omega (arith, ints, value.1, less))
quotient_value (negsuc m) (pos n) positive value = let less = div-le_self m n in (omega (arith, ints, value.0, less), omega (arith, ints))

-- ---- between two numbers

-- q and r are the greatest whose products are at most the opposite of the lower number, and the upper number
pub between_up : (factor low high q r a b x : ℤ) → ((y : ℤ) → ((y *ℤ factor) ≤ℤ neg_ℤ low) ↔ (y ≤ℤ q)) → ((y : ℤ) → ((y *ℤ factor) ≤ℤ high) ↔ (y ≤ℤ r))
    → a ≡ neg_ℤ q → b ≡ r → ((a ≤ℤ x) × (x ≤ℤ b)) ↔ ((low ≤ℤ (x *ℤ factor)) × ((x *ℤ factor) ≤ℤ high))
between_up factor low high q r a b x below above a_is b_is =
    let is = neg_left x factor in (
      λ within.
          let under = (below (neg_ℤ x)).1 (omega (arith, ints, within.0, a_is)) in
          (omega (arith, ints, under, is), (above x).1 (omega (arith, ints, within.1, b_is))),
      λ within.
          let under = (below (neg_ℤ x)).0 (omega (arith, ints, within.0, is)) in
          let over = (above x).0 within.1 in
          (omega (arith, ints, under, a_is), omega (arith, ints, over, b_is)),
    )

-- the same of a negative factor, by the quotients of its opposite
pub between_down : (factor low high q r a b x : ℤ) → ((y : ℤ) → ((y *ℤ neg_ℤ factor) ≤ℤ high) ↔ (y ≤ℤ q)) → ((y : ℤ) → ((y *ℤ neg_ℤ factor) ≤ℤ neg_ℤ low) ↔ (y ≤ℤ r))
    → a ≡ neg_ℤ q → b ≡ r → ((a ≤ℤ x) × (x ≤ℤ b)) ↔ ((low ≤ℤ (x *ℤ factor)) × ((x *ℤ factor) ≤ℤ high))
between_down factor low high q r a b x below above a_is b_is =
    let one = neg_right x factor in
    let both = neg_left x (neg_ℤ factor) ∙ ap neg_ℤ (neg_right x factor) ∙ neg_ℤ-neg_ℤ (x *ℤ factor) in (
      λ within.
          let under = (below (neg_ℤ x)).1 (omega (arith, ints, within.0, a_is)) in
          let over = (above x).1 (omega (arith, ints, within.1, b_is)) in
          (omega (arith, ints, over, one), omega (arith, ints, under, both)),
      λ within.
          let under = (below (neg_ℤ x)).0 (omega (arith, ints, within.1, both)) in
          let over = (above x).0 (omega (arith, ints, within.0, one)) in
          (omega (arith, ints, under, a_is), omega (arith, ints, over, b_is)),
    )

-- ---- order

times_pos : (x y : ℤ) (n : ℕ) → x ≤ℤ y → (x *ℤ pos n) ≤ℤ (y *ℤ pos n)
times_pos (pos a) (pos b) n le =
    let one = pos-*ℤ-pos a n in
    let other = pos-*ℤ-pos b n in
    let h : a ≤ b = omega (arith, ints, le) in
    let more = mul-le-mul_right n h in
    omega (arith, ints, one, other, more)
times_pos (pos a) (negsuc b) n le = absurd (omega (arith, ints, le))
times_pos (negsuc a) (pos b) n le = let one = negsuc-*ℤ-pos a n in let other = pos-*ℤ-pos b n in omega (arith, ints, one, other)
times_pos (negsuc a) (negsuc b) n le =
    let one = negsuc-*ℤ-pos a n in
    let other = negsuc-*ℤ-pos b n in
    let h : suc b ≤ suc a = omega (arith, ints, le) in
    let more = mul-le-mul_right n h in
    omega (arith, ints, one, other, more)

pub times_up : (x y factor : ℤ) → pos 0 <ℤ factor → x ≤ℤ y → (x *ℤ factor) ≤ℤ (y *ℤ factor)
times_up x y (pos n) positive le = times_pos x y n le
times_up x y (negsuc n) positive le = absurd (omega (arith, ints, positive))

pub times_down : (x y factor : ℤ) → factor ≤ℤ pos 0 → x ≤ℤ y → (y *ℤ factor) ≤ℤ (x *ℤ factor)
times_down x y (pos n) down le =
    let none : n ≡ 0 = omega (arith, ints, down) in
    let one = ap (λ k. x *ℤ pos k) none ∙ *ℤ-zero x in
    let other = ap (λ k. y *ℤ pos k) none ∙ *ℤ-zero y in
    omega (arith, ints, one, other)
times_down x y (negsuc n) down le =
    let more = times_pos x y (suc n) le in
    omega (arith, ints, more, *ℤ-negsuc x n, *ℤ-negsuc y n)

-- the same of numbers that the code has cast
pub quotient_along : (number factor m f q r : ℤ) → number ≡ m → factor ≡ f → q ≡ r → ((y : ℤ) → ((y *ℤ factor) ≤ℤ number) ↔ (y ≤ℤ q)) → (y : ℤ) → ((y *ℤ f) ≤ℤ m) ↔ (y ≤ℤ r)
quotient_along number factor m f q r number_is factor_is q_is law y =
    subst (λ k. ((y *ℤ f) ≤ℤ k) ↔ (y ≤ℤ r)) number_is (subst (λ k. ((y *ℤ k) ≤ℤ number) ↔ (y ≤ℤ r)) factor_is (subst (λ k. ((y *ℤ factor) ≤ℤ number) ↔ (y ≤ℤ k)) q_is (law y)))

-- between these numbers lie those whose products lie between the two others
abbrev pub AreQuotients : ℤ → ℤ → ℤ → ℤ → ℤ → Type 0
AreQuotients factor low high first last = (x : ℤ) → ((first ≤ℤ x) × (x ≤ℤ last)) ↔ ((low ≤ℤ (x *ℤ factor)) × ((x *ℤ factor) ≤ℤ high))

pub quotients_along : (factor low high f l h first last a b : ℤ) → factor ≡ f → low ≡ l → high ≡ h → first ≡ a → last ≡ b → AreQuotients factor low high first last → AreQuotients f l h a b
quotients_along factor low high f l h first last a b factor_is low_is high_is first_is last_is law =
    subst (λ k. AreQuotients k l h a b) factor_is (subst (λ k. AreQuotients factor k h a b) low_is (subst (λ k. AreQuotients factor low k a b) high_is
    (subst (λ k. AreQuotients factor low high k b) first_is (subst (λ k. AreQuotients factor low high first k) last_is law))))
