-- The entries so far have been looked at.
use Rattle.model_core.specs.Block.{plain_entries}
use Rattle.db_fixpoint.proofs.FollowedBranches.{LookedAt}
use Rattle.db_fixpoint.proofs.branches.follow_all.Given as goal

abbrev pub invariant-loop-place : goal.invariant-loop-place
invariant-loop-place l = LookedAt l.model l.block (plain_entries l.entries) l.place l.fn.store l.store
