use Rattle.std.proofs.Common.{refl}
use Rattle.narrow_core.proofs.Outcomes.{side_fails, side_open, EqualSide}
use Rattle.narrow_core.proofs.Supports.{keeps_along}
use Rattle.narrow_core.proofs.Values.{IsApart}
use Rattle.narrow_core.proofs.tested.keep_side.Goals as goal

pub returns-in-Fails-clause-kept : goal.returns-in-Fails-clause-kept
returns-in-Fails-clause-kept c =
    let truth = c.args.truth.now in
    let other = c.args.other.now in
    keeps_along (IsApart other) (EqualSide truth other) c.args.own.now c.keep_apart.new.own c.keep_apart.result
    (λ value. side_fails truth other value c.in-Fails.ensures.domain (λ one. let has = c.has.ensures.1 one in absurd (cc (has, c.in-Fails.ensures.says)))) c.keep_apart.ensures.kept

pub returns-in-Open-clause-kept : goal.returns-in-Open-clause-kept
returns-in-Open-clause-kept c = (
  refl,
  λ value tested. side_open c.args.truth.now c.args.other.now value c.lo-least.ensures.domain (c.has.ensures.0 c.in-Open.ensures.says.0) c.in-Open.ensures.says.1,
)
