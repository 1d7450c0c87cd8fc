use Rattle.nddl_hierarchy.specs.Facts.{facts_of}
use Rattle.nddl_types.proofs.Adding.{same_preds}
use Rattle.nddl_types.proofs.predicates.push_class_preds.Goals as goal

pub returns : goal.returns
returns c =
    same_preds (facts_of c.args.sources.now.basis) c.args.sources.now.enums.now c.args.entry c.class_number-class.result
    c.in_ok-line.line.items c.as_slice.result.now c.args.preds.now c.push_preds_along.new.preds c.push_preds_along.result
    c.class_number-class.ensures c.in_ok-line.ensures c.as_slice.ensures.value c.push_preds_along.ensures
