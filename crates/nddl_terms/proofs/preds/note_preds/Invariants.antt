use Rattle.std.proofs.Common.{◌≡◌, drop}
use Rattle.nddl_terms.specs.Preds.{with_pred_names}
use Rattle.nddl_terms.proofs.preds.note_preds.Given as goal

-- with the predicates that are left it is what it is with all
abbrev pub invariant-loop-number : goal.invariant-loop-number
invariant-loop-number l =
    with_pred_names l.named.items l.number (drop l.number l.preds) ≡ with_pred_names l.initial.named.items 0 l.preds
