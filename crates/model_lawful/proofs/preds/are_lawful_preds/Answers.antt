use Rattle.std.proofs.Common.{sym, subst}
use Rattle.model_typing.proofs.Telling.{ok_as}
use Rattle.model_lawful.specs.Preds.{AreLawfulInOrder, AreLawfulPreds}
use Rattle.model_lawful.proofs.preds.are_lawful_preds.Goals as goal

pub returns : goal.returns
returns c =
    ok_as c.are_lawful_in_order.result (AreLawfulInOrder c.args.model.now c.as_slice.result.now) (AreLawfulPreds c.args.model.now)
    (subst (AreLawfulInOrder c.args.model.now) c.as_slice.ensures) (subst (AreLawfulInOrder c.args.model.now) (sym c.as_slice.ensures)) c.are_lawful_in_order.ensures
