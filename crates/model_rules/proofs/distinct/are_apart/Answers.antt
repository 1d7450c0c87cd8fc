use Rattle.model_rules.proofs.Fielding.{parted}
use Rattle.model_rules.proofs.distinct.are_apart.Goals as goal

pub add_preds-requires : goal.add_preds-requires
add_preds-requires c = c.in_ok-add_fields.ensures.apart

pub returns : goal.returns
returns c = parted c.args.classes.now c.args.preds.now c.add_fields.new.names c.add_preds.new.names c.in_ok-add_fields.ensures c.add_preds.result c.add_preds.ensures
