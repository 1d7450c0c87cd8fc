use Rattle.std.proofs.Common.{◌≤ℤ◌, inl, inr, w32, to_z, of_z, arith}
use Rattle.std.proofs.lemmas.Int.{ints}
use Rattle.domain_core.proofs.Ranges.{AreMet, met_left, met_slack}
use Rattle.domain_core.proofs.interval.Interval.meet.Goals as goal
use Rattle.domain_core.proofs.interval.Interval.meet.Goals.{then-lo-self+else-self-hi, else-lo-self}

pub returns-clause-kept : goal.returns-clause-kept
returns-clause-kept c =
    let lo = c.args.self.now.lo in
    let hi = c.args.self.now.hi in
    let met : AreMet lo hi c.args.lo c.args.hi (to_z w32 (of_z w32 c.greater-new_lo.result)) (to_z w32 (of_z w32 c.less-new_hi.result)) = record {
      lower = elim c.greater-new_lo.ensures.is_one [ inl same ↦ inl (omega (arith, ints)) | inr same ↦ inr (omega (arith, ints)) ];
      from_lo = omega (arith, ints);
      from_low = omega (arith, ints);
      upper = elim c.less-new_hi.ensures.is_one [ inl same ↦ inl (omega (arith, ints)) | inr same ↦ inr (omega (arith, ints)) ];
      to_hi = omega (arith, ints);
      to_high = omega (arith, ints);
    } in
    let moved : c.args.lo ≤ℤ lo → hi ≤ℤ c.args.hi → ⊥ =
    λ low high. elim c.if-lo-self.branch [ then-lo-self+else-self-hi w ↦ omega (arith, ints) | else-lo-self w ↦ omega (arith, ints) ] in
    (met_left _ _ _ _ _ _ met (omega (arith, ints)), met_slack _ _ _ _ _ _ met (omega (arith, ints, c.requires)) (omega (arith, ints)) moved)
