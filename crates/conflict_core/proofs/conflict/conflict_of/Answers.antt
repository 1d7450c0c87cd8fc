use Rattle.model_core.specs.History.{standing}
use Rattle.conflict_core.proofs.Turning.{begins, taken_all}
use Rattle.conflict_core.proofs.conflict.conflict_of.Goals as goal

pub reduce-done-requires-clause-kept : goal.reduce-done-requires-clause-kept
reduce-done-requires-clause-kept c = begins c.args.model.now c.new-log.result c.in_ok-kept.kept c.new-log.ensures c.in_ok-kept.ensures

pub returns : goal.returns
returns c =
    taken_all c.args.model.now c.args.decisions.now (standing c.reduce-done.new.log) c.reduce-done.result c.taken.result c.reduce-done.ensures c.taken.ensures
