use Rattle.std.proofs.Common.{arith}
use Rattle.std.proofs.lemmas.Int.{ints}
use Rattle.domain_core.proofs.Around.{around_members}
use Rattle.domain_core.proofs.Parts.{Bounds}
use Rattle.domain_core.proofs.members.meet_around.Goals as goal

pub returns-clause-kept : goal.returns-clause-kept
returns-clause-kept c =
    let g = c.first_from-from.ensures in
    let h = c.first_above-end.ensures in
    let bounds : Bounds c.args.members.now c.args.interval.now.lo c.args.interval.now.hi c.first_from-from.result c.first_above-end.result = record {
      bound = h.bound;
      below = λ k d p q. let fact = g.below k d p q in omega (arith, ints, fact);
      above_lo = λ k d p q. let fact = g.from k d p q in omega (arith, ints, fact);
      upto = λ k d p q. let fact = h.upto k d p q in omega (arith, ints, fact);
      above = λ k d p q. let fact = h.above k d p q in omega (arith, ints, fact);
    } in
    around_members c.args.members.now _ _ _ _ c.first_from-from.result c.first_above-end.result _ _ c.requires.ascending bounds c.if-end-from.false (omega (arith, ints)) (omega (arith, ints)) c.meet.ensures.domain c.meet.ensures.kept
