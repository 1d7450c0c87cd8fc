use Rattle.std.proofs.Common.{refl, sym, ◌∙◌, ap, w32, of_z, arith}
use Rattle.std.proofs.lemmas.Int.{ints}
use Rattle.narrow_core.proofs.Supports.{tests_along, tests_none}
use Rattle.narrow_core.proofs.Values.{IsApart, apart_single, apart_any}
use Rattle.narrow_core.proofs.equal.lies_apart.Goals as goal

pub returns-then-value-hi : goal.returns-then-value-hi
returns-then-value-hi c =
    let other = c.args.other.now in
    tests_along _ (IsApart other) c.args.own.now _
    (λ value. apart_single other _ value c.lo-value.ensures.domain (omega (arith, ints, c.lo-value.ensures.least)) (omega (arith, ints, c.hi.ensures.greatest))) (tests_none c.args.own.now _ _ c.is_tested.ensures)

pub returns-else-value-hi : goal.returns-else-value-hi
returns-else-value-hi c = (
  λ _ value tested. apart_any c.args.other.now value c.lo-value.ensures.domain (λ same. c.if-value-hi.false (ap (of_z w32) (c.lo-value.ensures.least ∙ same ∙ sym c.hi.ensures.greatest))),
  λ _. refl,
)
