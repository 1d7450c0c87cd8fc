use Rattle.std.proofs.Common.{length, refl}
use Rattle.model_rules.proofs.Splitting.{small_told}
use Rattle.model_rules.proofs.blocks.is_small.Goals as goal

pub returns-then-depth-lt-MOST_DEEP : goal.returns-then-depth-lt-MOST_DEEP
returns-then-depth-lt-MOST_DEEP c = small_told c.args.depth (length c.args.entries.now) c.args.entries.now c.if-depth-lt-MOST_DEEP.true refl
