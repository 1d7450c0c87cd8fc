use Rattle.std.proofs.Common.{◌≡◌, ◌++◌, drop}
use Rattle.nddl_instance.specs.Putting.{preds_with}
use Rattle.nddl_instance.proofs.preds.preds_with.Given as goal

-- the predicates so far and those that are left are all
abbrev pub invariant-loop-number : goal.invariant-loop-number
invariant-loop-number l =
    l.made ++ preds_with l.lexicon l.lists l.number (drop l.number l.preds) ≡ preds_with l.lexicon l.lists 0 l.preds
