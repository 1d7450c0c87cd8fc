use Rattle.std.proofs.Common.{refl, sym, ◌∙◌, ap, w32, of_z, arith}
use Rattle.std.proofs.lemmas.Int.{ints}
use Rattle.narrow_core.proofs.Supports.{keeps_along}
use Rattle.narrow_core.proofs.Values.{IsApart, apart_single, apart_any}
use Rattle.narrow_core.proofs.equal.keep_apart.Goals as goal

pub returns-then-value-hi-clause-kept : goal.returns-then-value-hi-clause-kept
returns-then-value-hi-clause-kept c =
    let other = c.args.other.now in
    keeps_along _ (IsApart other) c.args.own.now c.drop_value.new.self c.drop_value.result
    (λ value. apart_single other _ value c.lo-value.ensures.domain (omega (arith, ints, c.lo-value.ensures.least)) (omega (arith, ints, c.hi.ensures.greatest))) c.drop_value.ensures.kept

pub returns-else-value-hi-clause-kept : goal.returns-else-value-hi-clause-kept
returns-else-value-hi-clause-kept c = (
  refl,
  λ value tested. apart_any c.args.other.now value c.lo-value.ensures.domain (λ same. c.if-value-hi.false (ap (of_z w32) (c.lo-value.ensures.least ∙ same ∙ sym c.hi.ensures.greatest))),
)
