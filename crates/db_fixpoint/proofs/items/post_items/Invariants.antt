-- What the entries so far say is posted.
use Rattle.model_core.specs.Block.{plain_entries}
use Rattle.db_fixpoint.proofs.Posting.{PostedTo}
use Rattle.db_fixpoint.proofs.items.post_items.Given as goal

abbrev pub invariant-loop-entry : goal.invariant-loop-entry
invariant-loop-entry l = PostedTo l.model l.block (plain_entries l.entries) l.entry-index l.fn.store l.store
