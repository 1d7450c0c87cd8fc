-- One entry more.
use Rattle.std.proofs.Common.{◌+◌, sym, subst, arith}
use Rattle.model_core.specs.Block.{plain_entries}
use Rattle.db_store.specs.Stores.{Stored}
use Rattle.db_fixpoint.specs.Reading.{block_named}
use Rattle.db_fixpoint.proofs.Posting.{WatchedTo, watched_other, watched_branch, watched_all, branch_stands, guard_named_on, guard_watched_as}
use Rattle.db_fixpoint.proofs.watching.watch_guards.Goals as goal
use Rattle.db_fixpoint.proofs.watching.watch_guards.Goals.{in-Branch+in_ok-watch_guard, in_default}

pub watch_guard-requires-clause-named : goal.watch_guard-requires-clause-named
watch_guard-requires-clause-named c =
    guard_named_on c.args.block.now c.in-Branch.guard c.args.store.now c.loop-entry.store c.loop-entry.invariant.only
    (c.requires.named c.in-Branch.guard c.in-Branch.then c.in-Branch.otherwise
    (branch_stands c.args.entries.now c.loop-entry.entry-index c.entry-item.result c.loop-entry-test.true c.entry-item.is c.in-Branch.guard c.in-Branch.then c.in-Branch.otherwise c.in-Branch.is))

pub loop-entry-preserved : goal.loop-entry-preserved
loop-entry-preserved c =
    let block = block_named c.args.store.now c.args.block.now in
    let entries = c.args.entries.now in
    let loop = c.loop-entry in
    elim c.match-entry.branch [
      | in-Branch+in_ok-watch_guard w ↦
          subst (λ (stored : Stored). WatchedTo c.args.number block (plain_entries entries) (loop.entry-index + 1) c.args.store.now stored) (sym w.store-is)
          (watched_branch c.args.number block entries loop.entry-index c.entry-item.result c.loop-entry-test.true c.entry-item.is c.args.store.now loop.store w.watch_guard.new.store loop.invariant
          w.in-Branch.guard w.in-Branch.then w.in-Branch.otherwise w.in-Branch.is
          (guard_watched_as c.args.block.now w.in-Branch.guard c.args.store.now loop.store loop.invariant.only w.watch_guard.new.store c.args.number w.in_ok-watch_guard.ensures.watched)
          w.in_ok-watch_guard.ensures.only w.in_ok-watch_guard.ensures.marks)
      | in_default w ↦
          subst (λ (stored : Stored). WatchedTo c.args.number block (plain_entries entries) (loop.entry-index + 1) c.args.store.now stored) (sym w.store-is)
          (watched_other c.args.number block entries loop.entry-index c.entry-item.result c.loop-entry-test.true c.entry-item.is c.args.store.now loop.store loop.store loop.invariant
          w.in_default.not-Branch)
    ]

pub returns-clause-watched : goal.returns-clause-watched
returns-clause-watched c =
    watched_all c.args.number (block_named c.args.store.now c.args.block.now) c.args.entries.now c.loop-entry.entry-index c.args.store.now c.loop-entry.store (omega arith) c.loop-entry.invariant
