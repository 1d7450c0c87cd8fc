use Rattle.std.proofs.Common.{arith, rules, w32}
use Rattle.std.proofs.lemmas.Int.{ints}
use Rattle.nddl_declarations.proofs.Counting.{counted_more}
use Rattle.nddl_declarations.proofs.values.places_below.Goals as goal
use mir.Val.{SFits}

pub loop-place-preserved : goal.loop-place-preserved
loop-place-preserved c =
    let fits : SFits w32 c.in_ok-value_at.field-0 = search rules in
    let is = c.in_ok-value_at.ensures in
    counted_more c.loop-place.places.items c.push.new.self.items _ c.loop-place.place c.loop-place.invariant c.in_ok-push.ensures.items
    (omega (arith, ints, fits, is))
