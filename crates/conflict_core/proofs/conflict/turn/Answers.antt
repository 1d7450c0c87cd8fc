use Rattle.conflict_core.proofs.Turning.{turn_left, turn_taken}
use Rattle.conflict_core.proofs.conflict.turn.Goals as goal

pub returns-then-fit : goal.returns-then-fit
returns-then-fit c =
    let asked = c.in_ok-fit.ensures in
    let took = c.in_ok-take_if_admissible.ensures in
    record {
      turn = turn_taken c.args.model.now c.args.log.now c.leave_something.new.log c.take_if_admissible.new.log c.args.decision.now c.args.behind.now c.in_ok-fit.fit
          asked.leaves asked.same c.if-fit.true took.on;
      kept = took.kept;
    }

pub returns : goal.returns
returns c =
    let asked = c.in_ok-fit.ensures in
    record {
      turn = turn_left c.args.model.now c.args.log.now c.leave_something.new.log c.leave_something.new.log c.args.decision.now c.args.behind.now c.in_ok-fit.fit
          asked.leaves asked.same c.if-fit.false;
      kept = asked.kept;
    }
