use Rattle.std.proofs.Common.{refl}
use Rattle.narrow_core.proofs.Outcomes.{side_holds, side_fails, side_open, EqualSide}
use Rattle.narrow_core.proofs.Supports.{tests_along}
use Rattle.narrow_core.proofs.tested.side_stays.Goals as goal

pub returns-in-Holds : goal.returns-in-Holds
returns-in-Holds c =
    let truth = c.args.truth.now in
    let other = c.args.other.now in
    tests_along _ (EqualSide truth other) c.args.own.now _ (λ value. side_holds truth other value c.in-Holds.ensures.says) c.lies_in.ensures

pub returns-in-Fails : goal.returns-in-Fails
returns-in-Fails c =
    let truth = c.args.truth.now in
    let other = c.args.other.now in
    tests_along _ (EqualSide truth other) c.args.own.now _
    (λ value. side_fails truth other value c.in-Fails.ensures.domain (λ one. let has = c.has.ensures.1 one in absurd (cc (has, c.in-Fails.ensures.says)))) c.lies_apart.ensures

pub returns-in-Open : goal.returns-in-Open
returns-in-Open c = (
  λ _ value tested. side_open c.args.truth.now c.args.other.now value c.lo-least.ensures.domain (c.has.ensures.0 c.in-Open.ensures.says.0) c.in-Open.ensures.says.1,
  λ _. refl,
)
