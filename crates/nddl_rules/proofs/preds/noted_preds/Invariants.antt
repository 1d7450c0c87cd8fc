use Rattle.std.proofs.Common.{◌≡◌, [], drop}
use Rattle.nddl_rules.specs.Written.{noted_preds}
use Rattle.nddl_rules.proofs.preds.noted_preds.Given as goal

-- the names so far with those of the predicates that are left are all
abbrev pub invariant-loop-number : goal.invariant-loop-number
invariant-loop-number l = noted_preds l.classes l.noted l.number (drop l.number l.preds) ≡ noted_preds l.classes [] 0 l.preds
