use Rattle.model_core.proofs.Numbering.{items_numbered}
use Rattle.model_core.proofs.rule.items_have_numbers.Goals as goal

pub returns : goal.returns
returns c = items_numbered
