use Rattle.std.proofs.Common.{◌≡◌, ◌++◌, drop}
use Rattle.nddl_rules.specs.Written.{preds_above}
use Rattle.nddl_rules.proofs.preds.preds_above.Given as goal

-- those so far and those of the predicates that are left are all
abbrev pub invariant-loop-pred : goal.invariant-loop-pred
invariant-loop-pred l =
    l.above.items ++ preds_above l.classes l.noted (drop l.pred-index l.preds) ≡ preds_above l.classes l.noted l.preds
