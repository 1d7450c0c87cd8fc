use Rattle.std.proofs.Common.{◌≡◌, w64, to_z, of_z, subst, arith}
use Rattle.std.proofs.lemmas.Int.{ints}
use Rattle.std.proofs.lemmas.Bool.{both_ways}
use Rattle.flow_envelope.specs.Times.{IsBy, MayBeBy, IsAfter, MayBeAfter}
use Rattle.flow_envelope.proofs.Matching.{sure_from, never_from, may_be_after, may_be_by}
use Rattle.flow_envelope.proofs.certain.certainty_of.Goals as goal

pub returns-then-is_by : goal.returns-then-is_by
returns-then-is_by c = λ edges point least greatest.
    let at : to_z w64 (of_z w64 c.args.at) ≡ c.args.at = omega (arith, ints) in
    subst (λ z. IsBy edges z point) at (sure_from edges (to_z w64 (of_z w64 c.args.at)) point c.args.greatest greatest (c.is_by.ensures.0 c.if-is_by.true))

pub returns-then-is_after : goal.returns-then-is_after
returns-then-is_after c = λ edges point least greatest.
    let at : to_z w64 (of_z w64 c.args.at) ≡ c.args.at = omega (arith, ints) in
    subst (λ z. IsAfter edges z point) at (never_from edges (to_z w64 (of_z w64 c.args.at)) point c.args.least least (c.is_after.ensures.0 c.if-is_after.true))

pub returns : goal.returns
returns c = λ edges point least greatest.
    let at : to_z w64 (of_z w64 c.args.at) ≡ c.args.at = omega (arith, ints) in (
      subst (λ z. MayBeBy edges z point) at (may_be_by edges (to_z w64 (of_z w64 c.args.at)) point c.args.least least (λ after. both_ways c.is_after.result c.if-is_after.false (c.is_after.ensures.1 after))),
      subst (λ z. MayBeAfter edges z point) at (may_be_after edges (to_z w64 (of_z w64 c.args.at)) point c.args.greatest greatest (λ by. both_ways c.is_by.result c.if-is_by.false (c.is_by.ensures.1 by))),
    )
