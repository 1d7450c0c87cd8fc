use Rattle.std.proofs.Common.{◌≡◌, pos}
use Rattle.domain_core.specs.Domain.{Range}
use Rattle.model_typing.proofs.Telling.{told_as}
use Rattle.model_lawful.specs.Preds.{HasQuantityEnds}
use Rattle.model_lawful.proofs.Ruling.{quantity_ends, ends_quantity}
use Rattle.model_lawful.proofs.preds.is_quantity_domain.Goals as goal

pub returns : goal.returns
returns c =
    told_as c.has_quantity_ends.result (HasQuantityEnds c.args.domain.now) (c.args.domain.now ≡ Range (pos 0) (pos 1000000)) (quantity_ends c.args.domain.now) (ends_quantity c.args.domain.now) c.has_quantity_ends.ensures
