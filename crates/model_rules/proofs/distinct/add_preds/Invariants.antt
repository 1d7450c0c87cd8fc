use Rattle.model_rules.specs.Distinct.{pred_key}
use Rattle.model_rules.proofs.Adding.{AddedUpTo}
use Rattle.model_rules.proofs.distinct.add_preds.Given as goal

abbrev pub invariant-loop-pred : goal.invariant-loop-pred
invariant-loop-pred l = AddedUpTo pred_key l.initial.names l.preds l.pred-index l.names
