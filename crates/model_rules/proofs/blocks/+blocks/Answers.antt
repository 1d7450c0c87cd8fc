use Rattle.model_core.specs.Block.{plain_entries}
use Rattle.model_typing.proofs.Telling.{never, told_not}
use Rattle.model_rules.specs.Nested.{IsSmall}
use Rattle.model_rules.proofs.blocks.+blocks.Goals as goal

pub is_lawful_block-returns-then-not-is_small : goal.is_lawful_block-returns-then-not-is_small
is_lawful_block-returns-then-not-is_small t c = told_not _ (λ lawful. never (IsSmall c.args.depth (plain_entries c.args.entries.now)) c.if-not-is_small.ensures lawful.0)
