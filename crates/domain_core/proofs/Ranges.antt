-- What the calls on a range leave, over plain numbers.
use Rattle.std.proofs.Common.{◌≡◌, ◌<◌, ℤ, ◌≤ℤ◌, ◌⊎◌, inl, inr, arith}
use Rattle.std.proofs.lemmas.Int.{ints, by_lt_z}
use Rattle.domain_core.specs.Domain.{Range, IsTested, slack}
use Rattle.domain_core.specs.Narrowing.{IsLeft}

-- the greater of the lower ends and the less of the upper ends
pub record AreMet (lo hi low high new_lo new_hi : ℤ) : Type 0 where
  pub lower : (new_lo ≡ lo) ⊎ (new_lo ≡ low)
  pub from_lo : lo ≤ℤ new_lo
  pub from_low : low ≤ℤ new_lo
  pub upper : (new_hi ≡ hi) ⊎ (new_hi ≡ high)
  pub to_hi : new_hi ≤ℤ hi
  pub to_high : new_hi ≤ℤ high

-- an end of a range that isn't empty lies between bounds that both ends keep
pub tested_between : (lo hi low high : ℤ) → lo ≤ℤ hi → low ≤ℤ lo → hi ≤ℤ high → (value : ℤ) → IsTested (Range lo hi) value → (low ≤ℤ value) × (value ≤ℤ high)
tested_between lo hi low high ordered p q value (inl at_lo) = (omega (arith, ints, p, at_lo), omega (arith, ints, ordered, q, at_lo))
tested_between lo hi low high ordered p q value (inr at_hi) = (omega (arith, ints, ordered, p, at_hi), omega (arith, ints, q, at_hi))

-- between the met ends lies what is left of the range
pub met_left : (lo hi low high new_lo new_hi : ℤ) → AreMet lo hi low high new_lo new_hi → new_lo ≤ℤ new_hi
    → IsLeft (λ value. (low ≤ℤ value) × (value ≤ℤ high)) (Range lo hi) (Range new_lo new_hi)
met_left lo hi low high new_lo new_hi met ordered = record {
  within = record { kind = tt; values = λ value has. (omega (arith, ints, has.0, met.from_lo), omega (arith, ints, has.1, met.to_hi)) };
  kept = λ value has passes.
      (from_either new_lo lo low value met.lower has.0 passes.0, upto_either new_hi hi high value met.upper has.1 passes.1);
  tested = tested_between new_lo new_hi low high ordered met.from_low met.to_high;
}
  where
    from_either : (end one other value : ℤ) → (end ≡ one) ⊎ (end ≡ other) → one ≤ℤ value → other ≤ℤ value → end ≤ℤ value
    from_either end one other value (inl e) p q = omega (arith, ints, e, p)
    from_either end one other value (inr e) p q = omega (arith, ints, e, q)

    upto_either : (end one other value : ℤ) → (end ≡ one) ⊎ (end ≡ other) → value ≤ℤ one → value ≤ℤ other → value ≤ℤ end
    upto_either end one other value (inl e) p q = omega (arith, ints, e, p)
    upto_either end one other value (inr e) p q = omega (arith, ints, e, q)

-- and there is less between them, where an end had to move
pub met_slack : (lo hi low high new_lo new_hi : ℤ) → AreMet lo hi low high new_lo new_hi → lo ≤ℤ hi → new_lo ≤ℤ new_hi
    → (low ≤ℤ lo → hi ≤ℤ high → ⊥) → slack (Range new_lo new_hi) < slack (Range lo hi)
met_slack lo hi low high new_lo new_hi met ordered left moved =
    by_lt_z lo low
    (λ below. omega (arith, ints))
    (λ fine. by_lt_z high hi (λ above. omega (arith, ints)) (λ fine_too. absurd (moved fine fine_too)))
