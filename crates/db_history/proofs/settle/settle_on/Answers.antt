use Rattle.std.proofs.Common.{◌<◌, length, arith}
use Rattle.db_history.proofs.Overs.{over_pushed}
use Rattle.db_history.proofs.settle.settle_on.Goals as goal

pub loop-decision-preserved : goal.loop-decision-preserved
loop-decision-preserved c =
    let within : c.loop-decision.decision-index < length c.args.decisions.now = omega arith in
    record {
      over = over_pushed c.args.model.now c.args.decisions.now c.loop-decision.decision-index c.decision-item.result
          c.args.settled.now.decisions.items c.loop-decision.settled.decisions.items c.settle_one.new.settled.decisions.items
          c.args.settled.now.flags.items c.loop-decision.settled.flags.items c.settle_one.new.settled.flags.items
          within c.decision-item.is c.loop-decision.invariant.over c.in_ok-settle_one.ensures.over;
      settled = c.in_ok-settle_one.ensures.settled;
      keeps = c.in_ok-settle_one.ensures.kept;
    }
