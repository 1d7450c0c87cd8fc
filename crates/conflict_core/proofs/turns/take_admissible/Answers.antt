use Rattle.std.proofs.Common.{◌<◌, length, arith}
use Rattle.conflict_core.proofs.Turning.{goes_pushed}
use Rattle.conflict_core.proofs.turns.take_admissible.Goals as goal

pub loop-decision-preserved : goal.loop-decision-preserved
loop-decision-preserved c =
    let within : c.loop-decision.decision-index < length c.args.decisions.now = omega arith in
    record {
      on = goes_pushed c.args.model.now c.args.decisions.now c.loop-decision.decision-index c.decision-item.result
          c.args.log.now c.loop-decision.log c.take_if_admissible.new.log
          within c.decision-item.is c.loop-decision.invariant.on c.in_ok-take_if_admissible.ensures.on;
      keeps = c.in_ok-take_if_admissible.ensures.kept;
    }
