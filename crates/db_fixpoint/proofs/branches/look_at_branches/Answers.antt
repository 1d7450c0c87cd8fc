-- The block of this number is the one that can be read.
use Rattle.db_fixpoint.proofs.FollowedBranches.{reads_entries, branches_followed}
use Rattle.db_fixpoint.proofs.branches.look_at_branches.Goals as goal

pub follow_all-followed-requires-clause-readable : goal.follow_all-followed-requires-clause-readable
follow_all-followed-requires-clause-readable c =
    reads_entries c.args.model.now c.args.number c.args.store.now c.in_ok-block.block c.in_ok-block.ensures c.entries_of-entries.result.now c.requires.readable c.entries_of-entries.ensures.are

pub returns-clause-followed : goal.returns-clause-followed
returns-clause-followed c =
    let reads = reads_entries c.args.model.now c.args.number c.args.store.now c.in_ok-block.block c.in_ok-block.ensures c.entries_of-entries.result.now c.requires.readable c.entries_of-entries.ensures.are in
    branches_followed c.args.model.now c.args.number c.in_ok-block.block c.entries_of-entries.result.now c.args.store.now c.follow_all-followed.new.store c.is_sound.ensures c.is_sound-2.ensures
    c.in_ok-block.ensures reads c.follow_all-followed.result c.follow_all-followed.ensures.followed c.follow_all-followed.ensures.adds
