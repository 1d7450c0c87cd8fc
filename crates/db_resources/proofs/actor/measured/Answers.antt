-- Each of the three is there, or nothing has such numbers.
use Rattle.std.proofs.Common.{w32, to_z, of_z, refl, arith}
use Rattle.std.proofs.lemmas.Int.{ints}
use Rattle.db_resources.proofs.Acting.{measured_by}
use Rattle.db_resources.proofs.actor.measured.Goals as goal

pub returns-in_default : goal.returns-in_default
returns-in_default g c = λ token actor at is. c.in_default.ensures token is.start at is.gives_start

pub returns-in_default-domain_at : goal.returns-in_default-domain_at
returns-in_default-domain_at g c = λ token actor at is. c.in_default-domain_at.ensures token is.end at is.gives_end

pub returns-in_default-domain_at-2 : goal.returns-in_default-domain_at-2
returns-in_default-domain_at-2 g c = λ token actor at is. c.in_default-domain_at-2.ensures token is.quantity at is.gives_quantity

pub returns : goal.returns
returns g c =
    let there = measured_by (g.V.View.state c.args.view.now) c.args.place c.args.kind c.in-Some.start.now c.in-Some-domain_at.end.now c.in-Some-domain_at-2.quantity.now
    c.in-Some.ensures c.in-Some-domain_at.ensures c.in-Some-domain_at-2.ensures
    (to_z w32 (of_z w32 c.lo.result)) (to_z w32 (of_z w32 c.hi.result)) (to_z w32 (of_z w32 c.lo-2.result)) (to_z w32 (of_z w32 c.lo-3.result)) (to_z w32 (of_z w32 c.hi-2.result))
    (omega (arith, ints, c.lo.ensures.least)) (omega (arith, ints, c.hi.ensures.greatest)) (omega (arith, ints, c.lo-2.ensures.least))
    (omega (arith, ints, c.lo-3.ensures.least)) (omega (arith, ints, c.hi-2.ensures.greatest)) in
    (there.0, there.1, refl, refl)
