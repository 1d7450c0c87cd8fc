-- The guards among the entries so far are watched.
use Rattle.model_core.specs.Block.{plain_entries}
use Rattle.db_fixpoint.specs.Reading.{block_named}
use Rattle.db_fixpoint.proofs.Posting.{WatchedTo}
use Rattle.db_fixpoint.proofs.watching.watch_guards.Given as goal

abbrev pub invariant-loop-entry : goal.invariant-loop-entry
invariant-loop-entry l = WatchedTo l.number (block_named l.fn.store l.block) (plain_entries l.entries) l.entry-index l.fn.store l.store
