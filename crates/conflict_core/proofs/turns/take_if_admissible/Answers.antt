use Rattle.db_history.proofs.Judging.{judged_goes}
use Rattle.model_core.specs.History.{standing}
use Rattle.conflict_core.proofs.Turning.{goes_taken, goes_left}
use Rattle.conflict_core.proofs.turns.take_if_admissible.Goals as goal

pub returns-in_ok-accept-in-Ok-clause-on : goal.returns-in_ok-accept-in-Ok-clause-on
returns-in_ok-accept-in-Ok-clause-on c =
    goes_taken c.args.model.now c.args.log.now c.accept.new.log c.args.decision.now c.in-Ok.ensures c.in_ok-accept-in-Ok.ensures.list

pub returns-in-Err : goal.returns-in-Err
returns-in-Err c = record {
  on = goes_left c.args.model.now c.args.log.now c.args.decision.now
      (judged_goes c.args.model.now (standing c.args.log.now) c.args.decision.now c.in-Err._objection c.in-Err.ensures);
  kept = c.requires.kept;
}
