use Rattle.std.proofs.Common.{◌≡◌, sym, ◌∙◌, ap, of_z, to_z, w32, subst, arith}
use Rattle.std.proofs.lemmas.Int.{ints}
use Rattle.domain_core.specs.Domain.{IsSingle, least, greatest}
use Rattle.domain_core.proofs.Words.{single_from_ends, single_least, single_greatest}
use Rattle.domain_core.proofs.domain.Dom.single.Goals as goal

pub returns-then-lo-hi-clause-some : goal.returns-then-lo-hi-clause-some
returns-then-lo-hi-clause-some c =
    let d = c.args.self.now in
    let ends : least d ≡ greatest d = omega (arith, ints) in
    let is : least d ≡ to_z w32 (of_z w32 c.lo-lo.result) = omega (arith, ints) in
    subst (IsSingle d) is (single_from_ends d c.lo-lo.ensures.domain ends)

pub returns-else-lo-hi-clause-none : goal.returns-else-lo-hi-clause-none
returns-else-lo-hi-clause-none c = λ value single.
    let d = c.args.self.now in
    let ok = c.lo-lo.ensures.domain in
    let low = c.lo-lo.ensures.least ∙ single_least d value ok single in
    let high = c.hi.ensures.greatest ∙ single_greatest d value ok single in
    c.if-lo-hi.false (ap (of_z w32) (low ∙ sym high))
