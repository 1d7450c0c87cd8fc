use Rattle.std.proofs.Common.{arith}
use Rattle.eu_forest.proofs.gathering.hand_all_up.Goals as goal

pub loop-place-preserved : goal.loop-place-preserved
loop-place-preserved c =
    let within = c.loop-place.invariant.within in
    record {
      within = omega (arith, within);
      gathered = λ owners count so_far. c.in_ok-hand_up.ensures owners count (c.loop-place.invariant.gathered owners count so_far);
    }
