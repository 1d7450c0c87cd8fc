use Rattle.std.proofs.Common.{◌≡◌, drop}
use Rattle.std.specs.List.{position_from}
use Rattle.nddl_terms.specs.Preds.{class_named, is_pred_named}
use Rattle.nddl_terms.proofs.preds.pred_place.Given as goal

-- the first of those that are left is the first of all
abbrev pub invariant-loop-number : goal.invariant-loop-number
invariant-loop-number l =
    position_from (is_pred_named l.class l.name) l.number (drop l.number l.preds) ≡ class_named l.class l.name l.preds
