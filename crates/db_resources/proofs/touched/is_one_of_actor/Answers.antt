use Rattle.std.proofs.Common.{refl, sym, slice_index_or, arith}
use Rattle.std.proofs.lemmas.Option.{get_or_from_slice_get, slice_get-get_or}
use Rattle.plan_defs.proofs.Members.{all_from_get}
use Rattle.eu_name.proofs.Members.{get_below}
use Rattle.plan_values.proofs.Matching.{one_more}
use Rattle.db_resources.specs.Touching.{IsOfIdle}
use Rattle.db_resources.proofs.touched.is_one_of_actor.Goals as goal

pub loop-number-preserved : goal.loop-number-preserved
loop-number-preserved c =
    let numbers = c.args.numbers.now in
    let index = c.loop-number.number-index in
    let number = slice_index_or numbers index 0 in
    one_more (IsOfIdle c.args.resources c.args.model.now c.args.store.now) numbers index number c.loop-number-test.true
    (sym (get_or_from_slice_get numbers index number number (slice_get-get_or numbers index 0 c.loop-number-test.true)))
    c.loop-number.invariant (c.if-is_of_actor.ensures refl)

pub returns : goal.returns
returns c = λ same.
    all_from_get (IsOfIdle c.args.resources c.args.model.now c.args.store.now) c.args.numbers.now (λ place other at.
    let below = get_below c.args.numbers.now place other at in
    c.loop-number.invariant place other (omega (arith, below, c.loop-number-test.false)) at)
