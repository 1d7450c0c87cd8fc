use Rattle.std.proofs.Common.{◌<◌, length, arith}
use Rattle.db_history.proofs.Overs.{all_pushed}
use Rattle.db_history.proofs.settle.keep_all.Goals as goal

pub loop-decision-preserved : goal.loop-decision-preserved
loop-decision-preserved c =
    let within : c.loop-decision.decision-index < length c.args.decisions.now = omega arith in
    let more = all_pushed c.args.decisions.now c.loop-decision.decision-index c.decision-item.result c.in_ok-copy.field-0 c.loop-decision.settled.decisions.items
    c.push-in-loop-decision.new.self.items c.loop-decision.settled.flags.items c.push.new.self.items within c.decision-item.is c.in_ok-copy.ensures
    c.loop-decision.invariant.kept c.loop-decision.invariant.stay c.in_ok-push-2.ensures.items c.in_ok-push.ensures.items in
    record { kept = more.0; stay = more.1 }
