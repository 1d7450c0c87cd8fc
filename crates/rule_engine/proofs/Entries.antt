-- A block of a lawful rule has few entries.
use Rattle.std.proofs.Common.{◌≤◌, length, refl}
use Rattle.model_core.specs.declared.model.Model.{Model}
use Rattle.model_core.specs.Blocks.{TokenBlock, IsBlock, direct}
use Rattle.model_core.specs.Entries.{Entries}
use Rattle.model_core.specs.Lawful.{IsLawful}
use Rattle.rule_engine.proofs.Finding.{found_by}
use Rattle.rule_engine.proofs.Limits.{block_short}

pub few_entries : (model : Model) (block : TokenBlock) (entries : Entries) → IsLawful model → IsBlock model block entries → length (direct entries) ≤ 65536
few_entries model block entries lawful is =
    let found = found_by model block.token block.rule block.path entries is.rule lawful is refl in
    block_short model found.pred is.rule found.few block.path entries found.way
