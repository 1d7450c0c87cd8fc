use Rattle.std.proofs.Common.{arith}
use Rattle.std.proofs.lemmas.Bool.{ltb-true, lt-ltb}
use Rattle.std.proofs.lemmas.Int.{ints}
use Rattle.domain_core.proofs.Parts.{Bounds}
use Rattle.domain_core.proofs.Sharing.{reached, reaching}
use Rattle.domain_core.proofs.members.reach.Goals as goal

pub returns : goal.returns
returns c =
    let g = c.first_from.ensures in
    let h = c.first_above.ensures in
    let bounds : Bounds c.args.members.now c.args.interval.now.lo c.args.interval.now.hi c.first_from.result c.first_above.result = record {
      bound = h.bound;
      below = λ k d p q. let fact = g.below k d p q in omega (arith, ints, fact);
      above_lo = λ k d p q. let fact = g.from k d p q in omega (arith, ints, fact);
      upto = λ k d p q. let fact = h.upto k d p q in omega (arith, ints, fact);
      above = λ k d p q. let fact = h.above k d p q in omega (arith, ints, fact);
    } in
    (λ test. reached _ _ _ _ _ bounds (ltb-true _ _ test), λ both. lt-ltb _ _ (reaching _ _ _ _ _ bounds both))
